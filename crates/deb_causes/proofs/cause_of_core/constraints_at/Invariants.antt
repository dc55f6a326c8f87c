use Rattle.std.proofs.Common.{◌≡◌, map, take, Some, slice_get}
use Rattle.deb_index.specs.Constraints.{constraints_of}
use Rattle.deb_causes.proofs.cause_of_core.constraints_at.Given as goal

abbrev pub invariant-loop-position : goal.invariant-loop-position
invariant-loop-position l = map (slice_get (constraints_of l.index)) (take l.position-index l.positions) ≡ map Some l.constraints.items
