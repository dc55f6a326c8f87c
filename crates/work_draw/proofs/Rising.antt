-- A rising list that holds each number of a range once is that range.
use Rattle.std.proofs.Common.{◌≡◌, ◌≢◌, ◌⊎◌, ℕ, zero, suc, ◌+◌, ◌<◌, ◌≤◌, cond, ◌==◌, Bool, List, [], ◌∷◌, length, get_or, IsPermutation, refl, ap, ap₂, inl, inr, ⊎_elim, ◌∙◌, subst, arith, lt_of_not-le, ne_eqb}
use Rattle.std.specs.List.{range_with_len}
use Rattle.std.specs.List.Sorted.{IsNonDecreasing, IsNonDecreasingBy}
use Rattle.std.proofs.lemmas.List.Sums.{sum_by-cons}
use Rattle.std.proofs.lemmas.List.Sorted.{IsPermutation-map, sum_by-IsPermutation}
use Rattle.std.proofs.lemmas.List.{get_or-map, length-map}
use native.Mathlib.Decide.{dec_le}
use mathlib.Core.Logic.{dite}
use Rattle.work_draw.specs.declared.pieces.Piece.{Piece}
use Rattle.work_draw.specs.Drawing.{times, HoldsEachOnce}
use Rattle.work_draw.specs.Checks.{numbers_of}
use Rattle.work_draw.proofs.Counts.{counts_itself, once_inside, none_from}

times-cons : (n x : ℕ) (xs : List ℕ) → times n (x ∷ xs) ≡ cond {A = ℕ} (x == n) 1 0 + times n xs
times-cons n x xs = sum_by-cons (λ y. cond (y == n) 1 0) x xs

not_it : (x n : ℕ) → x ≢ n → cond {A = ℕ} (x == n) 1 0 ≡ 0
not_it x n h = ap (λ (b : Bool). cond {A = ℕ} b 1 0) (ne_eqb x n h)

absent : (n : ℕ) (xs : List ℕ) → ((k d : ℕ) → k < length xs → n < get_or xs k d) → times n xs ≡ 0
absent n [] h = refl
absent n (x ∷ xs) h =
    let here : n < x = h 0 0 (omega arith) in
    let r = absent n xs (λ k d lt. h (suc k) d (omega arith)) in
    omega (arith, times-cons n x xs, not_it x n (λ e. omega arith))

record Holds (lo n : ℕ) (xs : List ℕ) : Type 0 where
  inside : (m : ℕ) → lo ≤ m → m < lo + n → times m xs ≡ 1
  outside : (m : ℕ) → (m < lo) ⊎ (lo + n ≤ m) → times m xs ≡ 0

first_is : (lo n x : ℕ) (xs : List ℕ) → IsNonDecreasing (x ∷ xs) → Holds lo (suc n) (x ∷ xs) → x ≡ lo
first_is lo n x xs rising h = let a = at_least in let b = at_most in omega arith
  where
    at_least : lo ≤ x
    at_least = dite (dec_le lo x) (λ le. le) (λ no. let less = lt_of_not-le no in let t = h.outside x (inl less) in absurd (omega (arith, times-cons x x xs, counts_itself x)))

    at_most : x ≤ lo
    at_most = dite (dec_le x lo) (λ le. le)
        (λ no.
        let more : lo < x = lt_of_not-le no in
        let t = h.inside lo (omega arith) (omega arith) in
        let none = absent lo (x ∷ xs) (λ k d lt. let r : x ≤ get_or (x ∷ xs) k d = rising 0 k d (omega arith) lt in omega arith) in
        absurd (omega arith))

rest_holds : (lo n : ℕ) (xs : List ℕ) → Holds lo (suc n) (lo ∷ xs) → Holds (lo + 1) n xs
rest_holds lo n xs h = record {
  inside = λ m ge lt. let t = h.inside m (omega arith) (omega arith) in omega (arith, times-cons m lo xs, not_it lo m (λ e. omega arith));
  outside = λ m out. by_case m out (dec_le lo m);
}
  where
    by_case : (m : ℕ) → (m < lo + 1) ⊎ (lo + 1 + n ≤ m) → Dec (lo ≤ m) → times m xs ≡ 0
    by_case m out (no n) = let t = h.outside m (inl (lt_of_not-le n)) in omega (arith, times-cons m lo xs)
    by_case m (inr far) (yes le) = let t = h.outside m (inr (omega arith)) in omega (arith, times-cons m lo xs)
    by_case m (inl near) (yes le) =
        let same : m ≡ lo = omega arith in
        let t = h.inside lo (omega arith) (omega arith) in
        let none : times lo xs ≡ 0 = omega (arith, times-cons lo lo xs, counts_itself lo) in
        ap (λ (k : ℕ). times k xs) same ∙ none

is_range : (lo n : ℕ) (xs : List ℕ) → IsNonDecreasing xs → Holds lo n xs → xs ≡ range_with_len lo n
is_range lo zero [] rising h = refl
is_range lo zero (x ∷ xs) rising h = let t = h.outside x (dite (dec_le lo x) (λ le. inr (omega arith)) (λ no. inl (lt_of_not-le no))) in absurd (omega (arith, times-cons x x xs, counts_itself x))
is_range lo (suc n) [] rising h = let t = h.inside lo (omega arith) (omega arith) in absurd (omega arith)
is_range lo (suc n) (x ∷ xs) rising h =
    let first : x ≡ lo = first_is lo n x xs rising h in
    let rest = is_range (lo + 1) n xs (λ i j d le lt. rising (suc i) (suc j) d (omega arith) (omega arith)) (rest_holds lo n xs (subst (λ (y : ℕ). Holds lo (suc n) (y ∷ xs)) first h)) in
    ap₂ (λ (y : ℕ) (ys : List ℕ). y ∷ ys) first rest

pub rising_is_range : (total : ℕ) (xs : List ℕ) → IsNonDecreasing xs → HoldsEachOnce total xs → xs ≡ range_with_len 0 total
rising_is_range total xs rising h = is_range 0 total xs rising record {
  inside = λ m _ lt. h m ∙ once_inside total m (omega arith);
  outside = λ m out. h m ∙ none_from total m (⊎_elim (λ (l : m < 0). absurd (omega arith)) (λ (r : 0 + total ≤ m). omega arith) out);
}

rising-map : {T : Type 0} (ps : List (Piece T)) → IsNonDecreasingBy (λ p. p.number) ps → IsNonDecreasing (numbers_of ps)
rising-map [] h i j d le lt = absurd (omega arith)
rising-map {T} (p ∷ ps) h i j d le lt =
    let number : Piece T → ℕ = λ (q : Piece T). q.number in
    let short : j < length (p ∷ ps) = omega (arith, length-map (p ∷ ps) number) in
    let a = get_or-map number (p ∷ ps) i p d (omega arith) in
    let b = get_or-map number (p ∷ ps) j p d short in
    let r = h i j p le short in
    omega arith

-- the pieces, sorted, are numbered 0, 1, 2 and so on
pub sorted_pieces : {T : Type 0} (total : ℕ) (ps qs : List (Piece T)) → HoldsEachOnce total (numbers_of ps) → IsPermutation ps qs → IsNonDecreasingBy (λ p. p.number) qs → numbers_of qs ≡ range_with_len 0 total
sorted_pieces {T} total ps qs once moved rising = rising_is_range total (numbers_of qs) (rising-map qs rising)
    (λ n. sum_by-IsPermutation (λ x. cond (x == n) 1 0) (numbers_of ps) (numbers_of qs) (IsPermutation-map (λ (p : Piece T). p.number) ps qs moved) ∙ once n)
