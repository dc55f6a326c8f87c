use Rattle.std.proofs.Common.{◌≡◌, ℕ, ◌<◌, true}
use Rattle.deb_index.specs.Constraints.{hits}
use Rattle.deb_groundwork.proofs.groundwork.is_alone.Given as goal

abbrev pub invariant-loop-number : goal.invariant-loop-number
invariant-loop-number l = (j : ℕ) → j < l.number → (q : ℕ) → hits l.index l.place j q ≡ true → q ≡ l.place
