use Rattle.std.proofs.Common.{◌≡◌, ◌&&◌, ◌||◌, ℕ, take}
use Rattle.number_sets.specs.Sets.{members_of}
use Rattle.deb_causes.proofs.cause_of_core.push_among.Given as goal

abbrev pub invariant-loop-place : goal.invariant-loop-place
invariant-loop-place l = (q : ℕ) → members_of l.versions.items q ≡ (members_of l.initial.versions.items q || (members_of l.answering q && members_of (take l.place-index l.places) q))
