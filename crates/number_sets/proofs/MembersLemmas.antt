-- The list of the variables that are in, one variable after another.
use Rattle.std.proofs.Common.{◌≡◌, ◌==◌, ℕ, ◌+◌, ◌<◌, ◌≤◌, Bool, true, false, ◌||◌, eqb, List, [], ◌∷◌, ◌++◌, length, get_or, take, refl, sym, ◌∙◌, ap, inl, inr, arith}
use Rattle.std.proofs.Math.Bool.{or-false}
use Rattle.std.proofs.lemmas.Bool.{cases_lt, eq-eqb, ne_eqb, or_left, or_right}
use Rattle.std.proofs.lemmas.List.{get_or_append_left, get_or_push, length-append, take_more}
use Rattle.std.proofs.lemmas.List.Folds.{list_any-append, list_any_none}
use Rattle.std.specs.List.Sorted.{IsStrictlyIncreasing}
use Rattle.std.specs.List.{All}
use Rattle.number_sets.specs.Sets.{NumberSet, members_of}

-- one member more
pub members_of_push : (numbers : List ℕ) (added number : ℕ) → members_of (numbers ++ added ∷ []) number ≡ (members_of numbers number || (eqb added number || false))
members_of_push numbers added number = list_any-append (λ member. eqb member number) numbers (added ∷ [])

pub pushed_has : (numbers : List ℕ) (added : ℕ) → members_of (numbers ++ added ∷ []) added ≡ true
pushed_has numbers added =
    members_of_push numbers added added ∙ or_right (members_of numbers added) (eqb added added || false) (or_left (eqb added added) false (eq-eqb added added refl))

pub pushed_keeps : (numbers : List ℕ) (added number : ℕ) → members_of numbers number ≡ true → members_of (numbers ++ added ∷ []) number ≡ true
pushed_keeps numbers added number there = members_of_push numbers added number ∙ or_left (members_of numbers number) (eqb added number || false) there

pub pushed_before : (numbers : List ℕ) (added number : ℕ) → number < added → members_of (numbers ++ added ∷ []) number ≡ members_of numbers number
pushed_before numbers added number before =
    let other : eqb added number ≡ false = ne_eqb added number (λ e. omega arith) in
    members_of_push numbers added number ∙ (ap (λ b. members_of numbers number || (b || false)) other ∙ or-false (members_of numbers number))

-- a number past all members is none
pub members_of_past : (numbers : List ℕ) (bound number : ℕ) → All (λ member. member < bound) numbers → bound ≤ number → members_of numbers number ≡ false
members_of_past numbers bound number small past =
    list_any_none (λ member. eqb member number) numbers
    (λ k d below. let less = small k d below in ne_eqb _ number (λ same. let less_here = less in absurd (omega arith)))

-- the list as far as `bound` has the set's numbers below it; and one number on
pub members_more_in : (numbers : List ℕ) (set : NumberSet) (bound : ℕ) → All (λ member. member < bound) numbers → ((number : ℕ) → number < bound → members_of numbers number ≡ set number) → set bound ≡ true → (number : ℕ) → number < bound + 1 → members_of (numbers ++ bound ∷ []) number ≡ set number
members_more_in numbers set bound small same holds number below =
    elim (cases_lt number bound) [
      | inl less ↦ pushed_before numbers bound number less ∙ same number less
      | inr past ↦
          let here : bound ≡ number = omega arith in
          ap (members_of (numbers ++ bound ∷ [])) (sym here) ∙ (pushed_has numbers bound ∙ (sym holds ∙ ap set here))
    ]

pub members_more_out : (numbers : List ℕ) (set : NumberSet) (bound : ℕ) → All (λ member. member < bound) numbers → ((number : ℕ) → number < bound → members_of numbers number ≡ set number) → set bound ≡ false → (number : ℕ) → number < bound + 1 → members_of numbers number ≡ set number
members_more_out numbers set bound small same lacks number below =
    elim (cases_lt number bound) [
      | inl less ↦ same number less
      | inr past ↦
          let here : bound ≡ number = omega arith in
          members_of_past numbers bound number small past ∙ (sym lacks ∙ ap set here)
    ]

-- the numbers are the set's members below the bound, rising
pub record ListsBelow (set : NumberSet) (bound : ℕ) (numbers : List ℕ) : Type 0 where
  pub rising : IsStrictlyIncreasing numbers
  pub small : All (λ member. member < bound) numbers
  pub same : (number : ℕ) → number < bound → members_of numbers number ≡ set number

pub rising_push : (numbers : List ℕ) (bound : ℕ) → IsStrictlyIncreasing numbers → All (λ member. member < bound) numbers → IsStrictlyIncreasing (numbers ++ bound ∷ [])
rising_push numbers bound rising small k below =
    let inside : k < length numbers = omega (arith, length-append numbers (bound ∷ [])) in
    let left : get_or (numbers ++ bound ∷ []) k 0 ≡ get_or numbers k 0 = get_or_append_left numbers (bound ∷ []) 0 k inside in
    elim (cases_lt (k + 1) (length numbers)) [
      | inl next ↦
          let right : get_or (numbers ++ bound ∷ []) (k + 1) 0 ≡ get_or numbers (k + 1) 0 = get_or_append_left numbers (bound ∷ []) 0 (k + 1) next in
          omega (arith, rising k next)
      | inr last ↦
          let is_last : length numbers ≡ k + 1 = omega arith in
          let right : get_or (numbers ++ bound ∷ []) (k + 1) 0 ≡ bound = get_or_push numbers bound 0 (k + 1) is_last in
          omega (arith, small k 0 inside)
    ]

small_push : (numbers : List ℕ) (bound : ℕ) → All (λ member. member < bound) numbers → All (λ member. member < bound + 1) (numbers ++ bound ∷ [])
small_push numbers bound small k d below =
    elim (cases_lt k (length numbers)) [
      | inl inside ↦
          let left : get_or (numbers ++ bound ∷ []) k d ≡ get_or numbers k d = get_or_append_left numbers (bound ∷ []) d k inside in
          omega (arith, small k d inside)
      | inr last ↦
          let is_last : length numbers ≡ k = omega (arith, length-append numbers (bound ∷ [])) in
          let right : get_or (numbers ++ bound ∷ []) k d ≡ bound = get_or_push numbers bound d k is_last in
          omega arith
    ]

pub lists_more_in : (set : NumberSet) (bound : ℕ) (numbers : List ℕ) → ListsBelow set bound numbers → set bound ≡ true → ListsBelow set (bound + 1) (numbers ++ bound ∷ [])
lists_more_in set bound numbers lists has = record {
  rising = rising_push numbers bound lists.rising lists.small;
  small = small_push numbers bound lists.small;
  same = members_more_in numbers set bound lists.small lists.same has;
}

pub lists_more_out : (set : NumberSet) (bound : ℕ) (numbers : List ℕ) → ListsBelow set bound numbers → set bound ≡ false → ListsBelow set (bound + 1) numbers
lists_more_out set bound numbers lists lacks = record {
  rising = lists.rising;
  small = λ k d below. omega (arith, lists.small k d below);
  same = members_more_out numbers set bound lists.small lists.same lacks;
}

-- at a bound that no member reaches the list has the whole set
pub lists_all : (set : NumberSet) (bound : ℕ) (numbers : List ℕ) → ListsBelow set bound numbers → ((number : ℕ) → bound ≤ number → set number ≡ false) → (number : ℕ) → members_of numbers number ≡ set number
lists_all set bound numbers lists none number =
    elim (cases_lt number bound) [
      | inl below ↦ lists.same number below
      | inr past ↦ members_of_past numbers bound number lists.small past ∙ sym (none number past)
    ]

-- the members of a row, with one more
pub members-more : (numbers : List ℕ) (i k : ℕ) → i < length numbers → members_of (take (i + 1) numbers) k ≡ (members_of (take i numbers) k || (get_or numbers i 0 == k))
members-more numbers i k inside =
    ap (λ front. members_of front k) (take_more numbers i 0 inside)
    ∙ list_any-append (λ member. member == k) (take i numbers) (get_or numbers i 0 ∷ [])
    ∙ ap (λ last. members_of (take i numbers) k || last) (or-false (get_or numbers i 0 == k))
