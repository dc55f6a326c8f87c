-- The numbers of a list at the indexes of a set: positions of groups, and places of variables.
use Rattle.std.proofs.Common.{◌≡◌, ℕ, zero, suc, ◌+◌, ◌<◌, ◌≤◌, Bool, true, false, ◌&&◌, eqb, List, length, get_or, refl, sym, ◌∙◌, ap, inl, inr, arith}
use Rattle.std.specs.List.{list_any, range_with_len}
use Rattle.std.specs.List.Sorted.{IsStrictlyIncreasing}
use Rattle.std.proofs.lemmas.Bool.{cases_Bool, cases_lt, cases_order, false≢true, and_parts, and_from, or_cases, or_left, or_right, both_ways, eqb-true, eq-eqb, false_from_ne_true}
use Rattle.number_sets.specs.Sets.{NumberSet, positions_of}
use Rattle.number_sets.proofs.RisingLists.{rising_lt}

any_of_range : (test : ℕ → Bool) (first count g : ℕ) → first ≤ g → g < first + count → test g ≡ true → list_any test (range_with_len first count) ≡ true
any_of_range test first zero g from under holds = absurd (omega arith)
any_of_range test first (suc count) g from under holds =
    elim (cases_lt first g) [
      | inl later ↦ or_right (test first) (list_any test (range_with_len (first + 1) count)) (any_of_range test (first + 1) count g (omega arith) (omega arith) holds)
      | inr here ↦ let same : first ≡ g = omega arith in or_left (test first) (list_any test (range_with_len (first + 1) count)) (ap test same ∙ holds)
    ]

of_range : (test : ℕ → Bool) (first count : ℕ) → list_any test (range_with_len first count) ≡ true → (g : ℕ) × (g < first + count) × (test g ≡ true)
of_range test first zero holds = absurd (false≢true holds)
of_range test first (suc count) holds =
    elim (or_cases (test first) (list_any test (range_with_len (first + 1) count)) holds) [
      | inl here ↦ (first, omega arith, here)
      | inr later ↦ let at = of_range test (first + 1) count later in (at.0, omega (arith, at.1), at.2)
    ]

pub position_in : (positions : List ℕ) (groups : NumberSet) (group : ℕ) → group < length positions → groups group ≡ true → positions_of positions groups (get_or positions group 0) ≡ true
position_in positions groups group inside is_in =
    any_of_range (λ g. groups g && eqb (get_or positions g 0) (get_or positions group 0)) 0 (length positions) group (omega arith) (omega arith)
    (and_from (groups group) (eqb (get_or positions group 0) (get_or positions group 0)) is_in (eq-eqb (get_or positions group 0) (get_or positions group 0) refl))

pub group_at : (positions : List ℕ) (groups : NumberSet) (k : ℕ) → positions_of positions groups k ≡ true → (group : ℕ) × (group < length positions) × (groups group ≡ true) × (get_or positions group 0 ≡ k)
group_at positions groups k is_in =
    let at = of_range (λ g. groups g && eqb (get_or positions g 0) k) 0 (length positions) is_in in
    let parts = and_parts (groups at.0) (eqb (get_or positions at.0 0) k) at.2 in
    (at.0, omega (arith, at.1), parts.0, eqb-true (get_or positions at.0 0) k parts.1)

pub one_group : (positions : List ℕ) → IsStrictlyIncreasing positions → (i j : ℕ) → i < length positions → j < length positions → get_or positions i 0 ≡ get_or positions j 0 → i ≡ j
one_group positions rising i j one other same =
    elim (cases_order i j) [
      | inl e ↦ e
      | inr apart ↦ elim apart [
        | inl less ↦ absurd (omega (arith, rising_lt positions rising i j less other))
        | inr more ↦ absurd (omega (arith, rising_lt positions rising j i more one))
      ]
    ]

out_of_positions : (positions : List ℕ) → IsStrictlyIncreasing positions → (groups : NumberSet) (group : ℕ) → group < length positions → groups group ≡ false → positions_of positions groups (get_or positions group 0) ≡ false
out_of_positions positions rising groups group inside out =
    false_from_ne_true (positions_of positions groups (get_or positions group 0)) (λ is_in.
    let at = group_at positions groups (get_or positions group 0) is_in in
    both_ways (groups group) out (ap groups (sym (one_group positions rising at.0 group at.1 inside at.3)) ∙ at.2))

pub same_position : (positions : List ℕ) → IsStrictlyIncreasing positions → (groups : NumberSet) (group : ℕ) → group < length positions → positions_of positions groups (get_or positions group 0) ≡ groups group
same_position positions rising groups group inside =
    elim (cases_Bool (groups group)) [
      | inl is_in ↦ position_in positions groups group inside is_in ∙ sym is_in
      | inr out ↦ out_of_positions positions rising groups group inside out ∙ sym out
    ]
