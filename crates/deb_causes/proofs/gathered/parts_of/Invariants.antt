use Rattle.std.proofs.Common.{◌≡◌, map, take}
use Rattle.deb_index.specs.Constraints.{below}
use Rattle.deb_causes.specs.Gathering.{part_of, part_view}
use Rattle.deb_causes.specs.Numbering.{package_view}
use Rattle.deb_causes.proofs.gathered.parts_of.Given as goal

abbrev pub invariant-loop-one : goal.invariant-loop-one
invariant-loop-one l =
    map part_view l.parts.items ≡ map (part_of (map package_view (take l.one-index l.packages))) (below l.count)
