-- The places where a test passes: which they are, that they rise, and that they lie below the length.
use Rattle.std.proofs.Common.{◌≡◌, ℕ, zero, suc, ◌+◌, ◌<◌, ◌≤◌, Bool, true, false, eqb, List, [], ◌∷◌, length, get_or, map, filter, slice_get, All, refl, ◌∙◌, ap, inl, inr, arith}
use Rattle.std.specs.List.{list_any, enumerate_from}
use Rattle.std.specs.List.Sorted.{IsStrictlyIncreasing}
use Rattle.std.specs.Option.{option_map_or}
use Rattle.std.proofs.lemmas.Bool.{cases_Bool}
use Rattle.std.proofs.lemmas.List.Elements.{All-nil, All-cons, All-weaker, All-same, All-tail, All-head}
use Rattle.deb_index.specs.Packages.{places_where}

-- a list that begins below all others rises where its rest does
pub rising-cons : (x : ℕ) (rest : List ℕ) → All (λ y. x < y) rest → IsStrictlyIncreasing rest → IsStrictlyIncreasing (x ∷ rest)
rising-cons x rest above rising zero below = above 0 0 (omega arith)
rising-cons x rest above rising (suc k) below =
    let next : suc k + 1 ≡ suc (k + 1) = omega arith in
    omega (arith, rising k (omega arith), ap (λ m. get_or (x ∷ rest) m 0) next)

-- what they are, without a word of their own
pub where_from : {A : Type 0} (test : A → Bool) (xs : List A) → places_where test xs ≡ map (λ e. e.0) (filter (λ e. test e.1) (enumerate_from 0 xs))
unfolding places_where
where_from test xs = refl

module _ {A : Type 0} (test : A → Bool) where
  -- the places where it passes, counted from a number on
  abbrev pub places_from : ℕ → List A → List ℕ
  places_from n xs = map (λ (e : ℕ × A). e.0) (filter (λ (e : ℕ × A). test e.1) (enumerate_from n xs))

  pub from_pass : (n : ℕ) (x : A) (xs : List A) → test x ≡ true → places_from n (x ∷ xs) ≡ n ∷ places_from (n + 1) xs
  from_pass n x xs passes = rw passes refl

  pub from_fail : (n : ℕ) (x : A) (xs : List A) → test x ≡ false → places_from n (x ∷ xs) ≡ places_from (n + 1) xs
  from_fail n x xs fails = rw fails refl

  -- they lie from that number on, as far as the list goes
  pub from_bounds : (n : ℕ) (xs : List A) → All (λ q. (n ≤ q) × (q < n + length xs)) (places_from n xs)
  from_bounds n [] = All-nil (λ q. (n ≤ q) × (q < n + 0))
  from_bounds n (x ∷ xs) =
      let Within : ℕ → Type 0 = λ q. (n ≤ q) × (q < n + length (x ∷ xs)) in
      let rest : All Within (places_from (n + 1) xs) =
      All-weaker (λ q. (n + 1 ≤ q) × (q < n + 1 + length xs)) Within (λ q bounds. (omega (arith, bounds.0), omega (arith, bounds.1))) (places_from (n + 1) xs) (from_bounds (n + 1) xs) in
      elim (cases_Bool (test x)) [
        | inl passes ↦ All-same Within (places_from n (x ∷ xs)) (n ∷ places_from (n + 1) xs) (from_pass n x xs passes) (All-cons Within n (places_from (n + 1) xs) (omega arith, omega arith) rest)
        | inr fails ↦ All-same Within (places_from n (x ∷ xs)) (places_from (n + 1) xs) (from_fail n x xs fails) rest
      ]

  -- and rise
  pub from_rises : (n : ℕ) (xs : List A) → IsStrictlyIncreasing (places_from n xs)
  from_rises n [] = λ k below. absurd (omega arith)
  from_rises n (x ∷ xs) =
      let above : All (λ q. n < q) (places_from (n + 1) xs) =
      All-weaker (λ q. (n + 1 ≤ q) × (q < n + 1 + length xs)) (λ q. n < q) (λ q bounds. omega (arith, bounds.0)) (places_from (n + 1) xs) (from_bounds (n + 1) xs) in
      elim (cases_Bool (test x)) [
        | inl passes ↦ rw (from_pass n x xs passes) (rising-cons n (places_from (n + 1) xs) above (from_rises (n + 1) xs))
        | inr fails ↦ rw (from_fail n x xs fails) (from_rises (n + 1) xs)
      ]

  -- a number below all of a list is not in it
  none_above : (q : ℕ) (places : List ℕ) → All (λ place. q < place) places → list_any (λ place. eqb place q) places ≡ false
  none_above q [] above = refl
  none_above q (place ∷ places) above = grind (arith, All-head (λ other. q < other) place places above, none_above q places (All-tail (λ other. q < other) place places above))

  none_from : (n q : ℕ) (xs : List A) → q < n → list_any (λ place. eqb place q) (places_from n xs) ≡ false
  none_from n q xs before =
      none_above q (places_from n xs)
      (All-weaker (λ place. (n ≤ place) × (place < n + length xs)) (λ place. q < place) (λ place bounds. omega (arith, bounds.0)) (places_from n xs) (from_bounds n xs))

  behind_first : (n q : ℕ) (x : A) (xs : List A) (found : Bool) → list_any (λ place. eqb place (n + suc q)) (places_from (n + 1) xs) ≡ found → list_any (λ place. eqb place (n + suc q)) (places_from n (x ∷ xs)) ≡ found
  behind_first n q x xs found rest = grind (arith, rest)

  from_member : (n q : ℕ) (xs : List A) → list_any (λ place. eqb place (n + q)) (places_from n xs) ≡ option_map_or test (slice_get xs q) false
  from_member n q [] = refl
  from_member n zero (x ∷ xs) = grind (arith, none_from (n + 1) (n + 0) xs)
  from_member n (suc q) (x ∷ xs) =
      let next : n + suc q ≡ n + 1 + q = omega arith in
      behind_first n q x xs _ (ap (λ at. list_any (λ place. eqb place at) (places_from (n + 1) xs)) next ∙ from_member (n + 1) q xs)

  -- a place is one of them where the element there passes
  pub member-places_where : (xs : List A) (q : ℕ) → list_any (λ place. eqb place q) (places_where test xs) ≡ option_map_or test (slice_get xs q) false
  unfolding places_where
  member-places_where xs q =
      let here : q ≡ 0 + q = omega arith in
      ap (λ at. list_any (λ place. eqb place at) (places_from 0 xs)) here ∙ from_member 0 q xs

  pub rising-places_where : (xs : List A) → IsStrictlyIncreasing (places_where test xs)
  unfolding places_where
  rising-places_where xs = from_rises 0 xs

  pub below-places_where : (xs : List A) → All (λ place. place < length xs) (places_where test xs)
  unfolding places_where
  below-places_where xs =
      All-weaker (λ place. (0 ≤ place) × (place < 0 + length xs)) (λ place. place < length xs) (λ place bounds. omega (arith, bounds.1)) (places_from 0 xs) (from_bounds 0 xs)
