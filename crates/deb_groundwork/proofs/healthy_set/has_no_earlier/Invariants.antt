use Rattle.std.proofs.Common.{◌≡◌, ℕ, ◌<◌, true, get_or}
use Rattle.deb_groundwork.proofs.healthy_set.has_no_earlier.Given as goal

abbrev pub invariant-loop-other : goal.invariant-loop-other
invariant-loop-other g l = (k : ℕ) → k < l.other-index → get_or l.row k 0 < l.place → g.P.Places.members l.set (get_or l.row k 0) ≡ true → ⊥
