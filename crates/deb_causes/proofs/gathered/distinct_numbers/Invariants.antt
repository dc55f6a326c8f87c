use Rattle.std.proofs.Common.{◌≡◌, map, take}
use Rattle.deb_causes.specs.Numbering.{core_view}
use Rattle.deb_causes.proofs.gathered.distinct_numbers.Given as goal

abbrev pub invariant-loop-one : goal.invariant-loop-one
invariant-loop-one l = l.numbers.items ≡ map (λ core. core.0) (map core_view (take l.one-index l.cores))
