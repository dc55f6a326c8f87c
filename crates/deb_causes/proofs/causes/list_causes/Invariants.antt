use Rattle.std.proofs.Common.{◌≡◌, map, take}
use Rattle.deb_causes.specs.Causes.{cause_view}
use Rattle.deb_causes.specs.Gathering.{cause_from, part_view}
use Rattle.deb_causes.proofs.causes.list_causes.Given as goal

abbrev pub invariant-loop-part : goal.invariant-loop-part
invariant-loop-part l = map cause_view l.causes.items ≡ map (cause_from l.index) (map part_view (take l.part-index l.parts))
