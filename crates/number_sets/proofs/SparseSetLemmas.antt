-- Places and their numbers.
use Rattle.std.proofs.Common.{◌≡◌, ◌≢◌, ℕ, zero, suc, ◌+◌, ◌<◌, ◌≤◌, ◌^◌, true, false, eqb, List, [], ◌∷◌, ◌++◌, length, get_or, set, Some, slice_get, All, refl, sym, ◌∙◌, ap, inl, inr, arith}
use Rattle.std.specs.List.{list_any, IsDistinct, range_with_len}
use Rattle.std.specs.List.Sorted.{IsStrictlyIncreasing, IsPermutation, IsSorted}
use Rattle.std.specs.Ordering.{nat_cmp}
use Rattle.std.specs.Cmp.{nat_eq_equiv}
use Rattle.std.proofs.lemmas.Bool.{both_ways, cases_lt, false_from_ne_true, eqb-true, eqb-false, eq-eqb, ne_eqb, or_parts, or_from}
use Rattle.std.proofs.lemmas.List.{length_push, length-set, get_or_append_left, get_or_push, get_or-set_same, get_or-set_other, get_or_default}
use Rattle.std.proofs.lemmas.List.FromFn.{length-range_with_len, get_or-range_with_len}
use Rattle.std.proofs.lemmas.List.Folds.{Any-from_list_any, list_any_at}
use Rattle.std.proofs.lemmas.List.Sorted.{All-permutation, IsNonDecreasingBy-from_sort}
use Rattle.std.proofs.lemmas.Map.Keys.{IsDistinct-from_apart, IsDistinct-push, IsDistinct-IsPermutation, IsStrictlyIncreasing-from_distinct, sorted_from_strictly_increasing, below_from_sorted}
use Rattle.std.proofs.lemmas.Map.Made.{length-le_from_is_member}
use Rattle.std.proofs.lemmas.Option.{same_Some, slice_get_within, slice_get-get_or, get_or_from_slice_get}
use Rattle.number_sets.specs.Sets.{members_of, IsNumbered}

-- a place of the list has a number, at which the list has the place
pub numbered_found : (places numbers : List ℕ) (q : ℕ) → IsNumbered places numbers → members_of places q ≡ true
    → (k : ℕ) × (slice_get numbers q ≡ Some k) × (slice_get places k ≡ Some q)
numbered_found places numbers q numbered is_in =
    let at = Any-from_list_any (λ member. eqb member q) places is_in in
    let here : get_or places at.0 0 ≡ q = get_or_default places at.0 0 at.1 at.2 ∙ (at.3 ∙ eqb-true at.1 q at.4) in
    (at.0, ap (slice_get numbers) (sym here) ∙ numbered.at at.0 at.2, slice_get-get_or places at.0 0 at.2 ∙ ap (λ x. Some x) here)

-- what stands at a number of the list is of the list
pub found_there : (places : List ℕ) (q k : ℕ) → slice_get places k ≡ Some q → members_of places q ≡ true
found_there places q k there =
    list_any_at (λ member. eqb member q) places k 0 (slice_get_within places k q there)
    (eq-eqb (get_or places k 0) q (get_or_from_slice_get places k q 0 there))

-- two of the list are apart, since their numbers are
numbered_distinct : (places numbers : List ℕ) → IsNumbered places numbers → IsDistinct eqb places
numbered_distinct places numbers numbered =
    IsDistinct-from_apart eqb places (λ i j d less below.
    false_from_ne_true (eqb (get_or places i d) (get_or places j d)) (λ same.
    let first : get_or places i d ≡ get_or places i 0 = get_or_default places i d 0 (omega arith) in
    let second : get_or places j d ≡ get_or places j 0 = get_or_default places j d 0 below in
    let one : get_or places i 0 ≡ get_or places j 0 = sym first ∙ (eqb-true (get_or places i d) (get_or places j d) same ∙ second) in
    let numbers_same : i ≡ j = same_Some i j (sym (numbered.at i (omega arith)) ∙ (ap (slice_get numbers) one ∙ numbered.at j below)) in
    omega arith))

pub numbered_within : (places numbers : List ℕ) → IsNumbered places numbers → All (λ place. place < length numbers) places
numbered_within places numbers numbered k d below =
    let inside : get_or places k 0 < length numbers = slice_get_within numbers (get_or places k 0) k (numbered.at k below) in
    let same : get_or places k d ≡ get_or places k 0 = get_or_default places k d 0 below in
    omega arith

-- distinct numbers below a bound are at most as many
pub few_below : (bound : ℕ) (xs : List ℕ) → IsDistinct eqb xs → All (λ x. x < bound) xs → length xs ≤ bound
few_below bound xs distinct small =
    let shorter : length xs ≤ length (range_with_len 0 bound) =
    length-le_from_is_member nat_eq_equiv xs (range_with_len 0 bound) distinct (λ q is_in.
    let at = Any-from_list_any (eqb q) xs is_in in
    let less : at.1 < bound = let below = small at.0 at.1 at.2 in omega (arith, below, at.3) in
    let same : q ≡ at.1 = eqb-true q at.1 at.4 in
    let inside : q < length (range_with_len 0 bound) = omega (arith, length-range_with_len 0 bound) in
    list_any_at (eqb q) (range_with_len 0 bound) q 0 inside
    (eq-eqb q (get_or (range_with_len 0 bound) q 0) (sym (there q (get_or-range_with_len 0 bound q 0 (omega arith)))))) in
    omega (arith, length-range_with_len 0 bound)
  where
    there : (q : ℕ) {x : ℕ} → x ≡ 0 + q → x ≡ q
    there q is = omega (arith, is)

-- where one place more has room, the places so far are fewer than the bound of all places
pub room_for_one : (places numbers : List ℕ) (q : ℕ) → IsNumbered places numbers → members_of places q ≡ false → q < length numbers → length places < 2 ^ 32
room_for_one places numbers q numbered is_new inside =
    let distinct : IsDistinct eqb (places ++ q ∷ []) = IsDistinct-push nat_eq_equiv places q (numbered_distinct places numbers numbered) (flipped places is_new) in
    let within = numbered_within places numbers numbered in
    let small : All (λ x. x < length numbers) (places ++ q ∷ []) = λ k d below.
    elim (cases_lt k (length places)) [
      | inl before ↦ let old = within k d before in omega (arith, get_or_append_left places (q ∷ []) d k before)
      | inr last ↦ omega (arith, get_or_push places q d k (omega (arith, length_push places q)))
    ] in
    omega (arith, few_below (length numbers) (places ++ q ∷ []) distinct small, length_push places q, numbered.few)
  where
    flipped : (xs : List ℕ) → members_of xs q ≡ false → list_any (eqb q) xs ≡ false
    flipped [] lacks = refl
    flipped (x ∷ xs) lacks =
        let parts = or_parts (eqb x q) (members_of xs q) lacks in
        or_from (eqb q x) (list_any (eqb q) xs) (ne_eqb q x (λ same. eqb-false x q parts.0 (sym same))) (flipped xs parts.1)

-- a place without a number, or with a number at which the list has another place or none, is not of the list
pub lacks_past : (places numbers : List ℕ) (q : ℕ) → IsNumbered places numbers → length numbers ≤ q → members_of places q ≡ false
lacks_past places numbers q numbered past =
    false_from_ne_true (members_of places q) (λ is_in.
    let found = numbered_found places numbers q numbered is_in in
    let inside : q < length numbers = slice_get_within numbers q found.0 found.1 in
    omega arith)

pub lacks_other : (places numbers : List ℕ) (q k : ℕ) → IsNumbered places numbers → slice_get numbers q ≡ Some k → (slice_get places k ≡ Some q → ⊥) → members_of places q ≡ false
lacks_other places numbers q k numbered number_is other =
    false_from_ne_true (members_of places q) (λ is_in.
    let found = numbered_found places numbers q numbered is_in in
    let same : found.0 ≡ k = same_Some found.0 k (sym found.1 ∙ number_is) in
    other (ap (slice_get places) (sym same) ∙ found.2))

written_same : (numbers : List ℕ) (q k : ℕ) → q < length numbers → slice_get (set numbers q k) q ≡ Some k
written_same numbers q k inside =
    slice_get-get_or (set numbers q k) q 0 (omega (arith, length-set numbers q k)) ∙ ap (λ x. Some x) (get_or-set_same numbers q k 0 inside)

written_other : (numbers : List ℕ) (q other k : ℕ) → other ≢ q → other < length numbers → slice_get (set numbers q k) other ≡ slice_get numbers other
written_other numbers q other k apart inside =
    slice_get-get_or (set numbers q k) other 0 (omega (arith, length-set numbers q k))
    ∙ (ap (λ x. Some x) (get_or-set_other numbers q other k 0 apart) ∙ sym (slice_get-get_or numbers other 0 inside))

-- a new place comes last, with its number
pub numbered_push : (places numbers : List ℕ) (q : ℕ) → IsNumbered places numbers → members_of places q ≡ false → q < length numbers
    → IsNumbered (places ++ q ∷ []) (set numbers q (length places))
numbered_push places numbers q numbered is_new inside = record {
  at = λ k below. elim (cases_lt k (length places)) [
    | inl before ↦
        let here : get_or (places ++ q ∷ []) k 0 ≡ get_or places k 0 = get_or_append_left places (q ∷ []) 0 k before in
        let apart : get_or places k 0 ≢ q = λ same. both_ways (members_of places q) is_new (found_there places q k (slice_get-get_or places k 0 before ∙ ap (λ x. Some x) same)) in
        let within = numbered_within places numbers numbered k 0 before in
        ap (slice_get (set numbers q (length places))) here ∙ (written_other numbers q (get_or places k 0) (length places) apart within ∙ numbered.at k before)
    | inr past ↦
        let last : length places ≡ k = omega (arith, length_push places q) in
        let here : get_or (places ++ q ∷ []) k 0 ≡ q = get_or_push places q 0 k last in
        ap (slice_get (set numbers q (length places))) here ∙ (written_same numbers q (length places) inside ∙ ap (λ x. Some x) last)
  ];
  few = let same = length-set numbers q (length places) in omega (arith, same, numbered.few);
}

-- the first places of a list have their numbers
pub record NumberedBelow (places before numbers : List ℕ) (count : ℕ) : Type 0 where
  pub at : (k : ℕ) → k < count → slice_get numbers (get_or places k 0) ≡ Some k
  pub same : length numbers ≡ length before

pub numbered_more : (places before numbers : List ℕ) (count : ℕ) → IsStrictlyIncreasing places → All (λ q. q < length before) places
    → count < length places → NumberedBelow places before numbers count → NumberedBelow places before (set numbers (get_or places count 0) count) (count + 1)
numbered_more places before numbers count rising within inside so_far = record {
  at = λ k below. elim (cases_lt k count) [
    | inl old ↦
        let less : get_or places k 0 < get_or places count 0 = below_from_sorted places k count 0 (sorted_from_strictly_increasing places rising) old inside in
        let apart : get_or places k 0 ≢ get_or places count 0 = λ same. omega (arith, same) in
        let fits = within k 0 (omega arith) in
        written_other numbers (get_or places count 0) (get_or places k 0) count apart (omega (arith, fits, so_far.same)) ∙ so_far.at k old
    | inr last ↦
        let now : k ≡ count = omega arith in
        let fits = within count 0 inside in
        ap (λ i. slice_get (set numbers (get_or places count 0) count) (get_or places i 0)) now
        ∙ (written_same numbers (get_or places count 0) count (omega (arith, fits, so_far.same)) ∙ ap (λ x. Some x) (sym now))
  ];
  same = length-set numbers (get_or places count 0) count ∙ so_far.same;
}

-- sorted places rise, since no two are the same
pub sorted_rises : (places numbers sorted : List ℕ) → IsNumbered places numbers → IsPermutation places sorted → IsSorted nat_cmp sorted → IsStrictlyIncreasing sorted
sorted_rises places numbers sorted numbered moved in_order =
    IsStrictlyIncreasing-from_distinct sorted (IsNonDecreasingBy-from_sort (λ x. x) sorted in_order)
    (IsDistinct-IsPermutation eqb nat_eq_equiv.symm places sorted moved (numbered_distinct places numbers numbered))

pub sorted_within : (places numbers sorted : List ℕ) → IsNumbered places numbers → IsPermutation places sorted → All (λ place. place < length numbers) sorted
sorted_within places numbers sorted numbered moved = All-permutation (λ place. place < length numbers) places sorted moved (numbered_within places numbers numbered)

-- in a rising list no member is below its position
pub position_at_most : (xs : List ℕ) (k : ℕ) → IsStrictlyIncreasing xs → k < length xs → k ≤ get_or xs k 0
position_at_most xs zero rising below = omega arith
position_at_most xs (suc k) rising below =
    let next : suc k ≡ k + 1 = omega arith in
    let same : get_or xs (suc k) 0 ≡ get_or xs (k + 1) 0 = ap (λ i. get_or xs i 0) next in
    let before : k ≤ get_or xs k 0 = position_at_most xs k rising (omega arith) in
    omega (arith, same, before, rising k (omega arith))
