-- Where a number stands in a rising list that is looked through from the place of the last one.
use Rattle.std.proofs.Common.{◌≡◌, ℕ, ◌<◌, ◌≤◌, ◌-◌, false, List, length, get_or, inl, inr, arith}
use Rattle.std.specs.List.Sorted.{IsStrictlyIncreasing}
use Rattle.std.proofs.lemmas.Bool.{cases_lt, false_from_ne_true}
use Rattle.number_sets.specs.Sets.{members_of}
use Rattle.number_sets.proofs.ListMembers.{members_of_at}
use Rattle.core_extract.proofs.NextOf.{never_falls}

pub between : (xs : List ℕ) (x i : ℕ)
    → IsStrictlyIncreasing xs → (0 < i → get_or xs (i - 1) 0 < x) → i ≤ length xs → (i < length xs → x < get_or xs i 0) → members_of xs x ≡ false
between xs x i rising before within behind =
    false_from_ne_true (members_of xs x) (λ is_in.
    let at = members_of_at xs x is_in in
    elim (cases_lt at.0 i) [
      | inl less ↦ absurd (omega (arith, never_falls xs rising at.0 (i - 1) (omega arith) (omega arith), before (omega arith), at.2))
      | inr past ↦ absurd (omega (arith, never_falls xs rising i at.0 past at.1, behind (omega (arith, past, at.1)), at.2))
    ])
