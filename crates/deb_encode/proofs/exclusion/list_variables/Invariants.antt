use Rattle.std.proofs.Common.{take}
use Rattle.deb_encode.specs.Exclusions.{AreNumbersOf}
use Rattle.deb_encode.proofs.exclusion.list_variables.Given as goal

abbrev pub invariant-loop-place : goal.invariant-loop-place
invariant-loop-place l = AreNumbersOf l.play.candidates.now (take l.place-index l.places) l.list.items
