use Rattle.std.proofs.Common.{◌≡◌}
use Rattle.deb_index.specs.Constraints.{below}
use Rattle.deb_report.proofs.asked.places_below.Given as goal

abbrev pub invariant-loop-place : goal.invariant-loop-place
invariant-loop-place l = l.places.items ≡ below l.place
