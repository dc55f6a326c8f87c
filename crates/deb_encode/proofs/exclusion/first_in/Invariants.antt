use Rattle.std.proofs.Common.{take}
use Rattle.deb_encode.specs.Exclusions.{AreNotIn}
use Rattle.deb_encode.proofs.exclusion.first_in.Given as goal

abbrev pub invariant-loop-place : goal.invariant-loop-place
invariant-loop-place l = AreNotIn l.play.forced.now (take l.place-index l.places)
