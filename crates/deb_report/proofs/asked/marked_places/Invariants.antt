use Rattle.std.proofs.Common.{◌≡◌, take}
use Rattle.number_sets.proofs.PlaceLemmas.{places_from}
use Rattle.deb_report.proofs.asked.marked_places.Given as goal

abbrev pub invariant-loop-place : goal.invariant-loop-place
invariant-loop-place l = l.places.items ≡ places_from (λ mark. mark) 0 (take l.place l.marks)
