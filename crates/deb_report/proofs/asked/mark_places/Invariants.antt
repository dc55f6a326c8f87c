use Rattle.std.proofs.Common.{◌≡◌, ◌<◌, ◌||◌, ℕ, false, get_or, length, take}
use Rattle.number_sets.proofs.PlaceLemmas.{is_among}
use Rattle.deb_report.proofs.asked.mark_places.Given as goal

abbrev pub invariant-loop-place : goal.invariant-loop-place
invariant-loop-place l = (k : ℕ) → k < length l.initial.marks →
    get_or l.marks k false ≡ (get_or l.initial.marks k false || is_among k (take l.place-index l.places))
