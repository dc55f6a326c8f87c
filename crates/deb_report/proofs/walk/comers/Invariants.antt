use Rattle.std.proofs.Common.{◌≡◌, ℕ, take}
use Rattle.number_sets.specs.Sets.{members_of}
use Rattle.deb_report.specs.Walk.{comers, places_in}
use Rattle.deb_report.proofs.walk.comers.Given as goal

abbrev pub invariant-loop-constraint : goal.invariant-loop-constraint
invariant-loop-constraint l = (q : ℕ) → places_in l.coming q ≡ members_of (comers l.index (take l.constraint-index l.core) l.place) q
