use Rattle.std.proofs.Common.{◌≡◌, ◌⊎◌, ℕ, ◌<◌, true, All, take}
use Rattle.number_sets.specs.Sets.{members_of, Grows}
use Rattle.number_sets.proofs.sparse_set.SparseSet.extend.Given as goal

abbrev pub invariant-loop-number : goal.invariant-loop-number
invariant-loop-number l = record {
  grows : (count : ℕ) → All (λ place. place < count) l.numbers → Grows count l.initial.self l.self;
  has : ((q : ℕ) → members_of (take l.number-index l.numbers) q ≡ true → members_of l.self q ≡ true);
  only : (q : ℕ) → members_of l.self q ≡ true → (members_of l.initial.self q ≡ true) ⊎ (members_of l.numbers q ≡ true);
}
