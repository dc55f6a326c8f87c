-- The least number of a rising list from one on, as a binary search for that one tells.
use Rattle.std.proofs.Common.{◌≡◌, ℕ, ◌-◌, ◌^◌, false, ltb, ◌<◌, ◌≤◌, List, Result, Ok, Err, length, get_or, MatchResult, ◌∙◌, ap, inl, inr, arith}
use Rattle.std.specs.List.Sorted.{IsStrictlyIncreasing, IsBinarySearchResult}
use Rattle.std.specs.Ordering.{nat_cmp}
use Rattle.std.proofs.lemmas.Bool.{cases_lt, false_from_ne_true, and_parts, and_from, lt-ltb, ltb-true}
use Rattle.std.proofs.lemmas.List.Sorted.{searched}
use Rattle.number_sets.specs.Sets.{members_of}
use Rattle.number_sets.proofs.ListMembers.{members_of_at, at_members_of}
use Rattle.number_sets.proofs.RisingLists.{rising_lt}
use Rattle.core_extract.specs.Reduction.{listed, BeginsAt, IsNext}

pub never_falls : (xs : List ℕ) → IsStrictlyIncreasing xs → (i j : ℕ) → i ≤ j → j < length xs → get_or xs i 0 ≤ get_or xs j 0
never_falls xs rising i j before inside =
    elim (cases_lt i j) [
      | inl less ↦ omega (arith, rising_lt xs rising i j less inside)
      | inr past ↦ let same : i ≡ j = omega arith in omega (arith, ap (λ k. get_or xs k 0) same)
    ]

module _ (numbers : List ℕ) (from : ℕ) (rising : IsStrictlyIncreasing numbers) where
  -- a binary search tells where the numbers begin that are no less than another
  begins : (r : Result ℕ ℕ)
      → MatchResult r (λ i. (i < length numbers) × (get_or numbers i 0 ≡ from)) (λ i. (i ≤ length numbers) × ((k : ℕ) → k < i → get_or numbers k 0 < from) × ((k : ℕ) → i ≤ k → k < length numbers → from < get_or numbers k 0))
      → MatchResult r (BeginsAt numbers from) (BeginsAt numbers from)
  begins (Ok i) found = record {
    before = λ k less inside. omega (arith, rising_lt numbers rising k i less found.0, found.1);
    behind = λ k past inside. omega (arith, never_falls numbers rising i k past inside, found.1);
  }
  begins (Err i) parts = record {
    before = λ k less inside. parts.1 k less;
    behind = λ k past inside. omega (arith, parts.2 k past inside);
  }

  pub begins_there : (r : Result ℕ ℕ) → IsBinarySearchResult (λ y. nat_cmp y from) numbers r → MatchResult r (BeginsAt numbers from) (BeginsAt numbers from)
  begins_there r found = begins r (searched numbers from r found (never_falls numbers rising))

  module _ (at : ℕ) (begin : BeginsAt numbers from at) where
    -- from there on, each number stands behind
    none_until : (k : ℕ) → from ≤ k → ((i : ℕ) → at ≤ i → i < length numbers → get_or numbers i 0 ≡ k → ⊥) → listed numbers k ≡ false
    none_until k past none =
        false_from_ne_true (listed numbers k) (λ is_in.
        let there = members_of_at numbers k ((and_parts (members_of numbers k) (ltb k (2 ^ 32 - 1)) is_in).0) in
        elim (cases_lt there.0 at) [
          | inl before ↦ absurd (omega (arith, begin.before there.0 before there.1, there.2))
          | inr behind ↦ none there.0 behind there.1 there.2
        ])

    pub first_is_next : at < length numbers → (number : ℕ) → number ≡ get_or numbers at 0 → number < 2 ^ 32 - 1 → IsNext (listed numbers) from number
    first_is_next inside number is_that under = (
      omega (arith, begin.behind at (omega arith) inside),
      omega arith,
      and_from (members_of numbers number) (ltb number (2 ^ 32 - 1)) (ap (members_of numbers) is_that ∙ at_members_of numbers at inside) (lt-ltb number (2 ^ 32 - 1) under),
      λ k past less. none_until k past (λ i behind is_there here. omega (arith, never_falls numbers rising at i behind is_there)),
    )

    pub none_there : length numbers ≤ at → (k : ℕ) → from ≤ k → listed numbers k ≡ false
    none_there over k past = none_until k past (λ i behind inside here. omega arith)

    -- the largest number of 32 bits is no listed one
    pub none_under : at < length numbers → 2 ^ 32 - 1 ≤ get_or numbers at 0 → (k : ℕ) → from ≤ k → listed numbers k ≡ false
    none_under inside over k past =
        false_from_ne_true (listed numbers k) (λ is_in.
        let parts = and_parts (members_of numbers k) (ltb k (2 ^ 32 - 1)) is_in in
        let there = members_of_at numbers k parts.0 in
        elim (cases_lt there.0 at) [
          | inl before ↦ absurd (omega (arith, begin.before there.0 before there.1, there.2))
          | inr behind ↦ absurd (omega (arith, never_falls numbers rising at there.0 behind there.1, ltb-true k (2 ^ 32 - 1) parts.1, there.2))
        ])
