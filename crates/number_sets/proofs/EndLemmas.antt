-- Rows that lie in one list of places, one behind the other.
use Rattle.std.proofs.Common.{◌≡◌, ◌<◌, ◌≤◌, ◌-◌, ℕ, Bool, true, false, List, [], ◌∷◌, ◌++◌, length, take, drop, get_or, Option, Some, None, refl, sym, ap, ◌∙◌, subst, arith}
use Prim.Native.Nat.{suc, zero}
use Rattle.std.specs.Prelude.{if◌then◌else◌, unwrap_or}
use Rattle.std.specs.Option.{is_some, option_map}
use Rattle.std.proofs.lemmas.List.{append-nil, drop-append-le, drop_at, get_or_read, length-append, length-drop, take-append-le, take_all}
use Rattle.number_sets.specs.Rows.{AreEnds, rows_from}

begins-within : (start count : ℕ) (ends : List ℕ) → AreEnds start count ends → start ≤ count
begins-within start count [] h = omega (arith, h)
begins-within start count (e ∷ ends) h = omega (arith, h.0, begins-within e count ends h.1)

-- ---- one row more

inside : (start end : ℕ) (xs ys : List ℕ) → start ≤ end → end ≤ length xs → take (end - start) (drop start (xs ++ ys)) ≡ take (end - start) (drop start xs)
inside start end xs ys h w = ap (take (end - start)) (drop-append-le start xs ys (omega arith)) ∙ take-append-le (end - start) (drop start xs) ys (omega (arith, length-drop start xs))

behind-all : (xs ys : List ℕ) (end : ℕ) → end ≡ length (xs ++ ys) → take (end - length xs) (drop (length xs) (xs ++ ys)) ≡ ys
behind-all xs ys end e = ap (take (end - length xs)) (drop_at xs ys (length xs) refl) ∙ take_all (end - length xs) ys (omega (arith, e, length-append xs ys))

-- more places change no row
rows-longer : (start : ℕ) (xs ys ends : List ℕ) (kept : List Bool) → AreEnds start (length xs) ends → rows_from start (xs ++ ys) ends kept ≡ rows_from start xs ends kept
rows-longer start xs ys [] kept h = refl
rows-longer start xs ys (e ∷ ends) [] h = refl
rows-longer start xs ys (e ∷ ends) (k ∷ kept) h =
    (λ i. (if k then Some (inside start e xs ys h.0 (begins-within e (length xs) ends h.1) i) else None) ∷ rows-longer e xs ys ends kept h.1 i)

rows-more : (start count : ℕ) (xs ends : List ℕ) (kept : List Bool) (end : ℕ) (k : Bool) → AreEnds start count ends → length ends ≡ length kept
    → rows_from start xs (ends ++ end ∷ []) (kept ++ k ∷ []) ≡ rows_from start xs ends kept ++ (if k then Some (take (end - count) (drop count xs)) else None) ∷ []
rows-more start count xs [] [] end k h same = ap (λ m. (if k then Some (take (end - m) (drop m xs)) else None) ∷ []) h
rows-more start count xs [] (l ∷ kept) end k h same = absurd (omega (arith, same))
rows-more start count xs (e ∷ ends) [] end k h same = absurd (omega (arith, same))
rows-more start count xs (e ∷ ends) (l ∷ kept) end k h same =
    ap (λ rows. (if l then Some (take (e - start) (drop start xs)) else None) ∷ rows) (rows-more e count xs ends kept end k h.1 (omega (arith, same)))

ends-more : (start count : ℕ) (ends : List ℕ) (end : ℕ) → AreEnds start count ends → count ≤ end → AreEnds start end (ends ++ end ∷ [])
ends-more start count [] end h le = (omega (arith, h, le), refl)
ends-more start count (e ∷ ends) end h le = (h.0, ends-more e count ends end h.1 le)

module _ (xs ends : List ℕ) (kept : List Bool) (h : AreEnds 0 (length xs) ends) (same : length ends ≡ length kept) (end : ℕ) where
  pub still-ends : (count : ℕ) (k : Bool) → end ≡ count → length xs ≤ count → AreEnds 0 count (ends ++ end ∷ []) × (length (ends ++ end ∷ []) ≡ length (kept ++ k ∷ []))
  still-ends count k e le =
      (subst (λ n. AreEnds 0 n (ends ++ end ∷ [])) e (ends-more 0 (length xs) ends end h (omega (arith, e, le))), omega (arith, same, length-append ends (end ∷ []), length-append kept (k ∷ [])))

  pub row-put : (ys : List ℕ) → end ≡ length (xs ++ ys) → rows_from 0 (xs ++ ys) (ends ++ end ∷ []) (kept ++ true ∷ []) ≡ rows_from 0 xs ends kept ++ Some ys ∷ []
  row-put ys e = rows-more 0 (length xs) (xs ++ ys) ends kept end true h same ∙ (λ i. rows-longer 0 xs ys ends kept h i ++ Some (behind-all xs ys end e i) ∷ [])

  pub row-left : rows_from 0 xs (ends ++ end ∷ []) (kept ++ false ∷ []) ≡ rows_from 0 xs ends kept ++ None ∷ []
  row-left = rows-more 0 (length xs) xs ends kept end false h same

  -- a row, or that it is left out, where no places are put down
  pub row-next : {R : Type 0} (now : R → List ℕ) (row : Option R) (none places : R) (k : Bool) → places ≡ unwrap_or row none → now none ≡ [] → k ≡ is_some row → end ≡ length (xs ++ now places)
      → rows_from 0 (xs ++ now places) (ends ++ end ∷ []) (kept ++ k ∷ []) ≡ rows_from 0 xs ends kept ++ option_map now row ∷ []
  row-next now (Some r) none places true is empty some e = row-put (now places) e ∙ ap (λ r. rows_from 0 xs ends kept ++ Some (now r) ∷ []) is
  row-next now (Some r) none places false is empty some e = absurd cc
  row-next now None none places true is empty some e = absurd cc
  row-next now None none places false is empty some e =
      let no_more : now places ≡ [] = ap now is ∙ empty in
      ap (λ zs. rows_from 0 (xs ++ zs) (ends ++ end ∷ []) (kept ++ false ∷ [])) no_more ∙ ap (λ zs. rows_from 0 zs (ends ++ end ∷ []) (kept ++ false ∷ [])) (append-nil xs) ∙ row-left

-- ---- the row with a number

pub rows-length : (start : ℕ) (xs ends : List ℕ) (kept : List Bool) → length ends ≡ length kept → length (rows_from start xs ends kept) ≡ length ends
rows-length start xs [] kept same = refl
rows-length start xs (e ∷ ends) [] same = absurd (omega (arith, same))
rows-length start xs (e ∷ ends) (k ∷ kept) same = ap (λ n. suc n) (rows-length e xs ends kept (omega (arith, same)))

row-at : (start : ℕ) (xs ends : List ℕ) (kept : List Bool) (i : ℕ) → length ends ≡ length kept → i < length ends
    → get_or (rows_from start xs ends kept) i None ≡ (if get_or kept i false then Some (take (get_or ends i 0 - get_or (start ∷ ends) i 0) (drop (get_or (start ∷ ends) i 0) xs)) else None)
row-at start xs [] kept i same less = absurd (omega arith)
row-at start xs (e ∷ ends) [] i same less = absurd (omega (arith, same))
row-at start xs (e ∷ ends) (k ∷ kept) zero same less = refl
row-at start xs (e ∷ ends) (k ∷ kept) (suc i) same less = row-at e xs ends kept i (omega (arith, same)) (omega arith)

ends-at : (start count : ℕ) (ends : List ℕ) (i : ℕ) → AreEnds start count ends → i < length ends → (get_or (start ∷ ends) i 0 ≤ get_or ends i 0) × (get_or ends i 0 ≤ count)
ends-at start count [] i h less = absurd (omega arith)
ends-at start count (e ∷ ends) zero h less = (h.0, begins-within e count ends h.1)
ends-at start count (e ∷ ends) (suc i) h less = ends-at e count ends i h.1 (omega arith)

module _ (xs ends : List ℕ) (kept : List Bool) (rows : List (Option (List ℕ))) (i : ℕ) (h : AreEnds 0 (length xs) ends) (same : length ends ≡ length kept)
    (seen : rows_from 0 xs ends kept ≡ rows) (less : i < length rows) where
  pub number-within : i < length ends
  number-within = omega (arith, less, ap length seen, rows-length 0 xs ends kept same)

  number-kept : i < length kept
  number-kept = omega (arith, number-within, same)

  row-seen : (k : Bool) → k ≡ get_or kept i k → get_or rows i None ≡ (if k then Some (take (get_or ends i 0 - get_or (0 ∷ ends) i 0) (drop (get_or (0 ∷ ends) i 0) xs)) else None)
  row-seen k at = ap (λ rs. get_or rs i None) (sym seen) ∙ row-at 0 xs ends kept i same number-within
      ∙ ap (λ b. if b then Some (take (get_or ends i 0 - get_or (0 ∷ ends) i 0) (drop (get_or (0 ∷ ends) i 0) xs)) else None) (sym (get_or_read kept i k number-kept at false))

  pub row-none : (k : Bool) → k ≡ get_or kept i k → k ≡ false → None ≡ get_or rows i None
  row-none k at e = sym (row-seen k at ∙ rw e refl)

  module _ (start end : ℕ) (s : start ≡ get_or (0 ∷ ends) i 0) (e : end ≡ get_or ends i end) where
    end-is : end ≡ get_or ends i 0
    end-is = get_or_read ends i end number-within e 0

    pub part-within : (start ≤ end) × (end ≤ length xs)
    part-within = let w = ends-at 0 (length xs) ends i h number-within in (omega (arith, s, end-is, w.0), omega (arith, end-is, w.1))

    pub row-some : (k : Bool) → k ≡ get_or kept i k → k ≡ true → Some (take (end - start) (drop start xs)) ≡ get_or rows i None
    row-some k at t = (λ j. Some (take (end-is j - s j) (drop (s j) xs))) ∙ sym (row-seen k at ∙ rw t refl)
