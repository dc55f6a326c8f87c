use Rattle.std.proofs.Common.{◌∙◌, inl, inr, refl, sym}
use Rattle.std.proofs.lemmas.Result.{IfOk-weaker}
use Rattle.work_draw.proofs.Answered.{IfOk-both}
use Rattle.debcheck.proofs.verdicts.TellerFinder.find.Goals as goal

pub returns-then-is_marked : goal.returns-then-is_marked
returns-then-is_marked c = inl (sym c.is_marked.ensures ∙ c.if-is_marked.true, refl)

pub returns : goal.returns
returns c =
    IfOk-weaker c.told_in.result _ _ (λ told both. inr both)
    (IfOk-both c.told_in.result _ _ (rw c.wanted_at.ensures at c.told_in.ensures.told) c.told_in.ensures.within)
