use Rattle.std.proofs.Common.{◌≡◌, ◌==◌, ◌∙◌, ℕ, List, ap, arith, map, take}
use Rattle.std.proofs.lemmas.List.{take_all}
use Rattle.deb_index.specs.declared.constraint.Constraint.{Constraint}
use Rattle.deb_index.proofs.FirstLemmas.{any-map}
use Rattle.number_sets.specs.Sets.{members_of}
use Rattle.std.specs.List.{list_any}
use Rattle.deb_causes.specs.Gathering.{has_number}
use Rattle.deb_causes.specs.Numbering.{core_view}
use Rattle.deb_causes.proofs.gathered.distinct_numbers.Goals as goal

pub returns-clause-same : goal.returns-clause-same
returns-clause-same c = λ k.
    let whole : take c.loop-one.one-index c.args.cores.now ≡ c.args.cores.now = take_all _ _ (omega arith) in
    c.sort_once.ensures.same k
    ∙ ap (λ numbers. members_of numbers k) c.loop-one.invariant
    ∙ any-map (λ (member : ℕ). member == k) (λ (core : ℕ × List Constraint). core.0) (map core_view (take c.loop-one.one-index c.args.cores.now))
    ∙ ap (λ cores. list_any (has_number k) (map core_view cores)) whole
