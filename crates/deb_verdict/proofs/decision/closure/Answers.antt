use Rattle.std.proofs.Common.{ℕ, ◌<◌, List, length, [], refl, subst, sym, ◌∙◌, ap}
use Rattle.std.proofs.lemmas.Bool.{false≢true}
use Rattle.std.proofs.lemmas.List.Elements.{All-nil}
use Rattle.std.proofs.lemmas.Result.{IfOk-weaker}
use Rattle.number_sets.specs.Sets.{members_of}
use Rattle.deb_encode.proofs.AddLemmas.{below_moved}
use Rattle.deb_verdict.specs.Closure.{IsClosure}
use Rattle.deb_verdict.proofs.GatherLemmas.{closed_alone}
use Rattle.deb_verdict.proofs.decision.closure.Goals as goal

pub invariant_of-ground-clause-within : goal.invariant_of-ground-clause-within
invariant_of-ground-clause-within c = below_moved c.new-nothing.result [] _ _ c.new-nothing.ensures refl (All-nil (λ q. q < length c.args.index.now.packages))

pub returns-clause-least : goal.returns-clause-least
returns-clause-least c =
    let At : List ℕ → Type 0 = λ list. IsClosure c.args.index.now c.args.p (members_of list) in
    IfOk-weaker c.from_slice.result _ _
    (λ members items_are. subst At (sym (items_are ∙ c.as_slice.ensures)) (
      closed_alone c.args.index.now c.args.p c.new-nothing.result c.gather.new.self c.new-nothing.ensures c.in_ok-gather.ensures.gathered c.in_ok-gather.ensures.start,
      λ other closed. c.in_ok-gather.ensures.least other closed (λ q never. absurd (false≢true (sym (ap (λ list. members_of list q) c.new-nothing.ensures) ∙ never))),
    ))
    c.from_slice.ensures.items
