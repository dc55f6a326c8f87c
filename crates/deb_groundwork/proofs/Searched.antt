-- Whether a rising list has a number, as a binary search for it tells.
use Rattle.std.proofs.Common.{◌≡◌, ℕ, ◌<◌, ◌≤◌, List, Result, Ok, Err, is_ok, length, get_or, MatchResult, sym, ◌∙◌, ap, inl, inr, arith}
use Rattle.std.specs.List.Sorted.{IsStrictlyIncreasing, IsBinarySearchResult}
use Rattle.std.specs.Ordering.{nat_cmp}
use Rattle.std.proofs.lemmas.Bool.{cases_lt, false_from_ne_true}
use Rattle.std.proofs.lemmas.List.Sorted.{searched}
use Rattle.number_sets.specs.Sets.{members_of}
use Rattle.core_extract.proofs.NextOf.{never_falls}
use Rattle.number_sets.proofs.ListMembers.{members_of_at, at_members_of}

told : (xs : List ℕ) (x : ℕ) (r : Result ℕ ℕ)
    → MatchResult r (λ i. (i < length xs) × (get_or xs i 0 ≡ x)) (λ i. (i ≤ length xs) × ((k : ℕ) → k < i → get_or xs k 0 < x) × ((k : ℕ) → i ≤ k → k < length xs → x < get_or xs k 0))
    → is_ok r ≡ members_of xs x
told xs x (Ok i) found = sym (ap (λ y. members_of xs y) (sym found.1) ∙ at_members_of xs i found.0)
told xs x (Err i) parts =
    sym (false_from_ne_true (members_of xs x) (λ is_in.
    let at = members_of_at xs x is_in in
    elim (cases_lt at.0 i) [
      | inl before ↦ absurd (omega (arith, parts.1 at.0 before, at.2))
      | inr past ↦ absurd (omega (arith, parts.2 at.0 (omega arith) at.1, at.2))
    ]))

-- a binary search finds just the numbers of a rising list
pub among : (numbers : List ℕ) (number : ℕ) (r : Result ℕ ℕ) → IsStrictlyIncreasing numbers → IsBinarySearchResult (λ y. nat_cmp y number) numbers r → is_ok r ≡ members_of numbers number
among numbers number r rising found = told numbers number r (searched numbers number r found (never_falls numbers rising))
