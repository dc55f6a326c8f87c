use Rattle.std.proofs.Common.{◌∙◌, Bool}
use Rattle.std.proofs.lemmas.Result.{IfOk-weaker}
use Rattle.deb_index.specs.Packages.{need_at}
use Rattle.deb_causes.proofs.MissingLemmas.{missing-where}
use Rattle.deb_causes.proofs.wrongs.is_final.Goals as goal

pub returns-in-Need : goal.returns-in-Need
returns-in-Need c =
    rw c.in-Need.is
    (IfOk-weaker c.is_missing.result _ _ (λ (missing : Bool) is. is ∙ missing-where c.args.index.now (need_at c.args.index.now c.in-Need.place c.in-Need.number)) c.is_missing.ensures)
