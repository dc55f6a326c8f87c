use Rattle.std.proofs.Common.{◌≡◌, ℕ, ◌<◌, true, get_or}
use Rattle.deb_groundwork.proofs.rows.other_in.Given as goal

abbrev pub invariant-loop-other : goal.invariant-loop-other
invariant-loop-other g l = (k : ℕ) → k < l.other-index → g.P.Places.members l.set (get_or l.row k 0) ≡ true → get_or l.row k 0 ≡ l.place
