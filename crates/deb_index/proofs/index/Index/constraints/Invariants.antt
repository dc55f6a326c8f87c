use Rattle.std.proofs.Common.{◌≡◌, take}
use Rattle.deb_index.specs.Constraints.{constraints_of}
use Rattle.deb_index.proofs.index.Index.constraints.Given as goal

abbrev pub invariant-loop-position : goal.invariant-loop-position
invariant-loop-position l = l.found.items ≡ take l.position (constraints_of l.self)
