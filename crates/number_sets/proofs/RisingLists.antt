-- Rising lists of numbers: their order, and that those with the same numbers are one.
use Rattle.std.proofs.Common.{◌≡◌, ℕ, zero, suc, ◌+◌, ◌<◌, ◌≤◌, true, false, ◌||◌, eqb, List, [], ◌∷◌, length, get_or, refl, sym, ◌∙◌, ap, subst, inl, inr, arith}
use Rattle.std.specs.List.Sorted.{IsStrictlyIncreasing}
use Rattle.std.proofs.lemmas.Bool.{cases_Bool, cases_lt, false≢true, or_cases, or_left, eqb-true, eq-eqb, false_from_ne_true}
use Rattle.number_sets.specs.Sets.{members_of}
use Rattle.number_sets.proofs.ListMembers.{members_of_at}

-- the numbers of a rising list keep the order of their places
pub rising_lt : (numbers : List ℕ) → IsStrictlyIncreasing numbers → (i j : ℕ) → i < j → j < length numbers → get_or numbers i 0 < get_or numbers j 0
rising_lt numbers rising i zero less inside = absurd (omega arith)
rising_lt numbers rising i (suc j) less inside =
    let next : suc j ≡ j + 1 = omega arith in
    let step : get_or numbers j 0 < get_or numbers (suc j) 0 = omega (arith, rising j (omega arith), ap (λ k. get_or numbers k 0) next) in
    elim (cases_lt i j) [
      | inl before ↦ omega (arith, rising_lt numbers rising i j before (omega arith))
      | inr here ↦ let same : i ≡ j = omega arith in omega (arith, ap (λ k. get_or numbers k 0) same)
    ]

pub rising_tail : (x : ℕ) (rest : List ℕ) → IsStrictlyIncreasing (x ∷ rest) → IsStrictlyIncreasing rest
rising_tail x rest rising k below =
    let next : suc k + 1 ≡ suc (k + 1) = omega arith in
    omega (arith, rising (suc k) (omega arith), ap (λ m. get_or (x ∷ rest) m 0) next)

-- the numbers behind the first are above it
pub above_first : (x : ℕ) (rest : List ℕ) → IsStrictlyIncreasing (x ∷ rest) → (number : ℕ) → members_of rest number ≡ true → x < number
above_first x rest rising number is_in =
    let at = members_of_at rest number is_in in
    let less : x < get_or rest at.0 0 = rising_lt (x ∷ rest) rising 0 (suc at.0) (omega arith) (omega (arith, at.1)) in
    omega (arith, at.2)

first_le : (x y : ℕ) (xs ys : List ℕ) → IsStrictlyIncreasing (y ∷ ys) → ((number : ℕ) → members_of (x ∷ xs) number ≡ members_of (y ∷ ys) number) → y ≤ x
first_le x y xs ys rising same =
    let here : members_of (y ∷ ys) x ≡ true = sym (same x) ∙ or_left (eqb x x) (members_of xs x) (eq-eqb x x refl) in
    elim (or_cases (eqb y x) (members_of ys x) here) [
      | inl it ↦ let e : y ≡ x = eqb-true y x it in omega arith
      | inr later ↦ omega (arith, above_first y ys rising x later)
    ]

not_behind : (x : ℕ) (rest : List ℕ) → IsStrictlyIncreasing (x ∷ rest) → members_of rest x ≡ false
not_behind x rest rising = false_from_ne_true (members_of rest x) (λ is_in. let less : x < x = above_first x rest rising x is_in in omega arith)

same_rest : (x : ℕ) (xs ys : List ℕ) → IsStrictlyIncreasing (x ∷ xs) → IsStrictlyIncreasing (x ∷ ys) → ((number : ℕ) → members_of (x ∷ xs) number ≡ members_of (x ∷ ys) number)
    → (number : ℕ) → members_of xs number ≡ members_of ys number
same_rest x xs ys rising also same number =
    elim (cases_Bool (eqb x number)) [
      | inl it ↦
          let e : x ≡ number = eqb-true x number it in
          sym (ap (members_of xs) e) ∙ (not_behind x xs rising ∙ (sym (not_behind x ys also) ∙ ap (members_of ys) e))
      | inr other ↦ sym (ap (λ b. b || members_of xs number) other) ∙ (same number ∙ ap (λ b. b || members_of ys number) other)
    ]

-- rising lists with the same numbers are one
pub rising_once : (xs ys : List ℕ) → IsStrictlyIncreasing xs → IsStrictlyIncreasing ys → ((number : ℕ) → members_of xs number ≡ members_of ys number) → xs ≡ ys
rising_once [] [] rising also same = refl
rising_once [] (y ∷ ys) rising also same = absurd (false≢true (same y ∙ or_left (eqb y y) (members_of ys y) (eq-eqb y y refl)))
rising_once (x ∷ xs) [] rising also same = absurd (false≢true (sym (same x) ∙ or_left (eqb x x) (members_of xs x) (eq-eqb x x refl)))
rising_once (x ∷ xs) (y ∷ ys) rising also same =
    let up : y ≤ x = first_le x y xs ys also same in
    let down : x ≤ y = first_le y x ys xs rising (λ number. sym (same number)) in
    let e : x ≡ y = omega arith in
    let P : ℕ → Type 0 = λ z. IsStrictlyIncreasing (z ∷ ys) in
    let Q : ℕ → Type 0 = λ z. (number : ℕ) → members_of (x ∷ xs) number ≡ members_of (z ∷ ys) number in
    let rest : xs ≡ ys = rising_once xs ys (rising_tail x xs rising) (rising_tail y ys also) (same_rest x xs ys rising (subst P (sym e) also) (subst Q (sym e) same)) in
    ap (λ z. z ∷ xs) e ∙ ap (λ zs. y ∷ zs) rest
