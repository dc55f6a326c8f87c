-- Rows by their numbers in a store.
use Rattle.std.proofs.Common.{◌≡◌, ◌<◌, ◌≤◌, ◌+◌, ℕ, List, [], ◌∷◌, ◌++◌, length, map, get_or, Option, None, All, refl, ap, ◌∙◌, arith}
use Rattle.std.proofs.Math.Seq.{get_or-append_seam}
use Rattle.std.proofs.lemmas.List.{get_or-append-add, get_or_append_left, length-append, length-map, map-append}
use Rattle.std.proofs.lemmas.List.Elements.{All-append, All-cons, All-head, All-map, All-nil, All-tail}
use Rattle.number_sets.specs.Rows.{rows_by}

abbrev Row : Type 0
Row = Option (List ℕ)

-- a longer store has the same rows under the same numbers
store-longer : (store more : List Row) (numbers : List ℕ) → All (λ n. n < length store) numbers → rows_by (store ++ more) numbers ≡ rows_by store numbers
store-longer store more [] stored = refl
store-longer store more (n ∷ numbers) stored =
    (λ i. get_or_append_left store more None n (All-head (λ m. m < length store) n numbers stored) i ∷ store-longer store more numbers (All-tail (λ m. m < length store) n numbers stored) i)

-- a row is put down in the store
pub rows-new : (store : List Row) (numbers : List ℕ) → All (λ n. n < length store) numbers → (row : Row) (n : ℕ) → n ≡ length store
    → rows_by (store ++ row ∷ []) (numbers ++ n ∷ []) ≡ rows_by store numbers ++ row ∷ []
rows-new store numbers stored row n last = map-append (λ m. get_or (store ++ row ∷ []) m None) numbers (n ∷ []) ∙ (λ i. store-longer store (row ∷ []) numbers stored i ++ at i ∷ [])
  where
    at : get_or (store ++ row ∷ []) n None ≡ row
    at = ap (λ m. get_or (store ++ row ∷ []) m None) last ∙ get_or-append_seam store row [] None

-- a store stands behind another, and so do the numbers of its rows
module _ (store more : List Row) (numbers others : List ℕ) (stored : All (λ n. n < length store) numbers) (before : ℕ) (e : before ≡ length store) where
  same-behind : (ns : List ℕ) → rows_by (store ++ more) (map (λ n. before + n) ns) ≡ rows_by more ns
  same-behind [] = refl
  same-behind (n ∷ ns) = λ i. (ap (λ m. get_or (store ++ more) (m + n) None) e ∙ get_or-append-add store more n None) i ∷ same-behind ns i

  pub rows-two : rows_by (store ++ more) (numbers ++ map (λ n. before + n) others) ≡ rows_by store numbers ++ rows_by more others
  rows-two = map-append (λ m. get_or (store ++ more) m None) numbers (map (λ n. before + n) others) ∙ (λ i. store-longer store more numbers stored i ++ same-behind others i)

  pub still-stored : All (λ n. n < length more) others → All (λ n. n < length (store ++ more)) (numbers ++ map (λ n. before + n) others)
  still-stored inside =
      All-append (λ n. n < length (store ++ more)) numbers (map (λ n. before + n) others)
      (λ k d less. omega (arith, stored k d less, length-append store more))
      (All-map (λ n. n < length (store ++ more)) (λ n. before + n) others (λ k d less. omega (arith, e, inside k d less, length-append store more)))

  pub still-few : length store ≤ length numbers → length more ≤ length others → length (store ++ more) ≤ length (numbers ++ map (λ n. before + n) others)
  still-few h k = omega (arith, h, k, length-append store more, length-append numbers (map (λ n. before + n) others), length-map others (λ n. before + n))

-- a number more, and no more rows than numbers
pub number-more : (stored more : ℕ) (numbers : List ℕ) (n : ℕ) → All (λ m. m < stored) numbers → stored ≤ more → n < more → more ≤ length numbers + 1
    → All (λ m. m < more) (numbers ++ n ∷ []) × (more ≤ length (numbers ++ n ∷ []))
number-more stored more numbers n all longer inside few =
    let last = All-cons (λ m. m < more) n [] inside (All-nil (λ m. m < more)) in
    (All-append (λ m. m < more) numbers (n ∷ []) (λ k d less. omega (arith, all k d less)) last, omega (arith, few, length-append numbers (n ∷ [])))
