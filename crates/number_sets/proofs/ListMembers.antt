-- Members of lists of numbers: where they stand, and what a test says of them.
use Rattle.std.proofs.Common.{◌≡◌, ℕ, zero, suc, ◌<◌, ◌≤◌, Bool, true, eqb, List, [], ◌∷◌, length, get_or, take, All, Contains, refl, sym, ◌∙◌, ap, inl, inr, arith}
use Rattle.std.specs.List.{list_any, list_all}
use Rattle.std.proofs.lemmas.Bool.{cases_Bool, false≢true, and_parts, or_cases, or_left, or_right, both_ways, eqb-true, eq-eqb, false_from_ne_true}
use Rattle.std.proofs.lemmas.List.{get_or_default}
use Rattle.std.proofs.lemmas.List.Folds.{list_any_at}
use Rattle.number_sets.specs.Sets.{NumberSet, members_of}

-- a member of the list that passes
pub any_member : (test : NumberSet) (xs : List ℕ) → list_any test xs ≡ true → (q : ℕ) × (test q ≡ true) × (members_of xs q ≡ true)
any_member test [] holds = absurd (false≢true holds)
any_member test (x ∷ xs) holds =
    elim (or_cases (test x) (list_any test xs) holds) [
      | inl here ↦ (x, here, or_left (eqb x x) (members_of xs x) (eq-eqb x x refl))
      | inr later ↦ let at = any_member test xs later in (at.0, at.1, or_right (eqb x at.0) (members_of xs at.0) at.2)
    ]

pub member_any : (test : NumberSet) (xs : List ℕ) (q : ℕ) → test q ≡ true → members_of xs q ≡ true → list_any test xs ≡ true
member_any test [] q holds is_in = absurd (false≢true is_in)
member_any test (x ∷ xs) q holds is_in =
    elim (or_cases (eqb x q) (members_of xs q) is_in) [
      | inl here ↦ or_left (test x) (list_any test xs) (ap test (eqb-true x q here) ∙ holds)
      | inr later ↦ or_right (test x) (list_any test xs) (member_any test xs q holds later)
    ]

-- what a test says of all of a list it says of a member
pub all_member : (test : NumberSet) (xs : List ℕ) (q : ℕ) → list_all test xs ≡ true → members_of xs q ≡ true → test q ≡ true
all_member test [] q holds is_in = absurd (false≢true is_in)
all_member test (x ∷ xs) q holds is_in =
    let parts = and_parts (test x) (list_all test xs) holds in
    elim (or_cases (eqb x q) (members_of xs q) is_in) [
      | inl here ↦ ap test (sym (eqb-true x q here)) ∙ parts.0
      | inr later ↦ all_member test xs q parts.1 later
    ]

-- where the members of a list stand
pub members_of_at : (numbers : List ℕ) (number : ℕ) → members_of numbers number ≡ true → (k : ℕ) × (k < length numbers) × (get_or numbers k 0 ≡ number)
members_of_at [] number is_in = absurd (false≢true is_in)
members_of_at (x ∷ rest) number is_in =
    elim (or_cases (eqb x number) (members_of rest number) is_in) [
      | inl here ↦ (0, omega arith, eqb-true x number here)
      | inr later ↦ let at = members_of_at rest number later in (suc at.0, omega (arith, at.1), at.2)
    ]

pub at_members_of : (numbers : List ℕ) (k : ℕ) → k < length numbers → members_of numbers (get_or numbers k 0) ≡ true
at_members_of numbers k inside = list_any_at (λ member. eqb member (get_or numbers k 0)) numbers k 0 inside (eq-eqb (get_or numbers k 0) (get_or numbers k 0) refl)

-- membership, as a test and as a place in the list
pub contains_member : (numbers : List ℕ) (number : ℕ) → Contains numbers number → members_of numbers number ≡ true
contains_member numbers number there =
    let here : get_or numbers there.0 0 ≡ number = sym (get_or_default numbers there.0 number 0 there.1) ∙ there.2 in
    sym (ap (members_of numbers) here) ∙ at_members_of numbers there.0 there.1

pub member_contains : (numbers : List ℕ) (number : ℕ) → members_of numbers number ≡ true → Contains numbers number
member_contains numbers number is_in = let at = members_of_at numbers number is_in in (at.0, at.1, get_or_default numbers at.0 number 0 at.1 ∙ at.2)

-- tests that hold together are one
pub same_test : (a b : Bool) → (a ≡ true → b ≡ true) → (b ≡ true → a ≡ true) → a ≡ b
same_test a b to from =
    elim (cases_Bool a) [
      | inl holds ↦ holds ∙ sym (to holds)
      | inr fails ↦ fails ∙ sym (false_from_ne_true b (λ other. both_ways a fails (from other)))
    ]

-- as many as there are, or more, are all
pub take_whole : {A : Type 0} (xs : List A) (i : ℕ) → length xs ≤ i → take i xs ≡ xs
take_whole [] zero past = refl
take_whole [] (suc i) past = refl
take_whole (x ∷ xs) zero past = absurd (omega arith)
take_whole (x ∷ xs) (suc i) past = ap (λ rest. x ∷ rest) (take_whole xs i (omega arith))

-- what is said of each member is said of all of the list
pub below_members : (xs : List ℕ) (bound : ℕ) → ((q : ℕ) → members_of xs q ≡ true → q < bound) → All (λ q. q < bound) xs
below_members xs bound inside k d below =
    let here : get_or xs k 0 < bound = inside (get_or xs k 0) (at_members_of xs k below) in
    omega (arith, get_or_default xs k d 0 below)
