-- At most one member of a rising list passes a test where at most one is counted.
use Rattle.std.proofs.Common.{◌≡◌, ℕ, ◌+◌, ◌<◌, ◌≤◌, Bool, true, false, cond, eqb, List, [], ◌∷◌, refl, ◌∙◌, ap, inl, inr, arith}
use Rattle.std.specs.Prelude.{count_by}
use Rattle.std.specs.List.Sorted.{IsStrictlyIncreasing}
use Rattle.std.proofs.lemmas.List.Sums.{sum_by-cons}
use Rattle.std.proofs.lemmas.Bool.{cases_Bool, false≢true, or_left, or_right, eq-eqb}
use Rattle.number_sets.proofs.RisingLists.{above_first, rising_tail}
use Rattle.deb_index.specs.Packages.{is_in}

module _ (test : ℕ → Bool) where
  count-first : (x : ℕ) (xs : List ℕ) → test x ≡ true → count_by test (x ∷ xs) ≡ 1 + count_by test xs
  count-first x xs passes =
      let one : cond {A = ℕ} (test x) 1 0 ≡ 1 = ap (λ (b : Bool). cond {A = ℕ} b 1 0) passes in
      omega (arith, one, sum_by-cons (λ y. cond {A = ℕ} (test y) 1 0) x xs)

  count-past : (x : ℕ) (xs : List ℕ) → test x ≡ false → count_by test (x ∷ xs) ≡ count_by test xs
  count-past x xs fails =
      let none : cond {A = ℕ} (test x) 1 0 ≡ 0 = ap (λ (b : Bool). cond {A = ℕ} b 1 0) fails in
      omega (arith, none, sum_by-cons (λ y. cond {A = ℕ} (test y) 1 0) x xs)

  -- where a member passes, the count is not 0
  count-some : (xs : List ℕ) (q : ℕ) → test q ≡ true → is_in xs q ≡ true → 0 < count_by test xs
  count-some [] q holds there = absurd (false≢true there)
  count-some (x ∷ xs) q holds there = grind (arith, holds, there, count-first x xs, count-some xs q holds, sum_by-cons (λ y. cond {A = ℕ} (test y) 1 0) x xs)

  count-none : (xs : List ℕ) → ((q : ℕ) → test q ≡ true → is_in xs q ≡ true → ⊥) → count_by test xs ≡ 0
  count-none [] none = refl
  count-none (x ∷ xs) none =
      elim (cases_Bool (test x)) [
        | inl passes ↦ absurd (none x passes (or_left (eqb x x) (is_in xs x) (eq-eqb x x refl)))
        | inr fails ↦ count-past x xs fails ∙ count-none xs (λ q holds there. none q holds (or_right (eqb x q) (is_in xs q) there))
      ]

  pub one-from-count : (xs : List ℕ) → count_by test xs ≤ 1 → (q r : ℕ) → test q ≡ true → test r ≡ true → is_in xs q ≡ true → is_in xs r ≡ true → q ≡ r
  one-from-count [] few q r holds also there too = absurd (false≢true there)
  one-from-count (x ∷ xs) few q r holds also there too =
      let ih : count_by test xs ≤ 1 → is_in xs q ≡ true → is_in xs r ≡ true → q ≡ r = λ fewer a b. one-from-count xs fewer q r holds also a b in
      grind (arith, few, holds, also, there, too, count-first x xs, count-some xs r also, count-some xs q holds, sum_by-cons (λ y. cond {A = ℕ} (test y) 1 0) x xs, ih)

  pub count-from-one : (xs : List ℕ) → IsStrictlyIncreasing xs → ((q r : ℕ) → test q ≡ true → test r ≡ true → is_in xs q ≡ true → is_in xs r ≡ true → q ≡ r) → count_by test xs ≤ 1
  count-from-one [] rising one = omega arith
  count-from-one (x ∷ xs) rising one =
      elim (cases_Bool (test x)) [
        | inl passes ↦
            let none : count_by test xs ≡ 0 = count-none xs (λ q holds there.
            let later : x < q = above_first x xs rising q there in
            let same : x ≡ q = one x q passes holds (or_left (eqb x x) (is_in xs x) (eq-eqb x x refl)) (or_right (eqb x q) (is_in xs q) there) in
            omega (arith, later)) in
            omega (arith, count-first x xs passes)
        | inr fails ↦
            let few : count_by test xs ≤ 1 = count-from-one xs (rising_tail x xs rising) (λ q r holds also there too.
            one q r holds also (or_right (eqb x q) (is_in xs q) there) (or_right (eqb x r) (is_in xs r) too)) in
            omega (arith, count-past x xs fails)
      ]
