use Rattle.std.proofs.Common.{◌≡◌, ℕ, ◌<◌, true}
use Rattle.deb_index.specs.Constraints.{hits}
use Rattle.number_sets.specs.Sets.{members_of, IsWithin}
use Rattle.deb_groundwork.proofs.rows.take_hits.Given as goal

abbrev pub invariant-loop-number : goal.invariant-loop-number
invariant-loop-number l = record {
  keeps : IsWithin (members_of l.initial.hit) (members_of l.hit);
  has : (j : ℕ) → j < l.number → (q : ℕ) → hits l.index l.place j q ≡ true → members_of l.hit q ≡ true;
}
