use Rattle.std.proofs.Common.{◌≡◌, [], map}
use Rattle.deb_index.specs.Constraints.{below}
use Rattle.deb_causes.specs.Gathering.{part_of, part_view}
use Rattle.deb_causes.proofs.gathered.no_parts.Given as goal

abbrev pub invariant-loop-number : goal.invariant-loop-number
invariant-loop-number l = map part_view l.parts.items ≡ map (part_of []) (below l._number)
