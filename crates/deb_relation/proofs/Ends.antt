-- Lists that lie in one list, one behind the other.
use Rattle.std.proofs.Common.{◌≡◌, ◌<◌, ◌≤◌, ◌+◌, ◌-◌, ℕ, List, [], ◌∷◌, ◌++◌, length, take, drop, map, get_or, refl, sym, ap, ◌∙◌, arith}
use Prim.Native.Nat.{suc, zero}
use Rattle.std.proofs.lemmas.List.{drop-append-le, drop-map, drop_at, get_or_read, length-append, length-drop, length-map, take-append-le, take-map, take_all}
use Rattle.deb_relation.specs.Groups.{AreEnds, MayBeEnds, lists_from, lists_in}

begins-within : (start count : ℕ) (ends : List ℕ) → AreEnds start count ends → start ≤ count
begins-within start count [] h = omega (arith, h)
begins-within start count (e ∷ ends) h = omega (arith, h.0, begins-within e count ends h.1)

pub ends-more : (start count : ℕ) (ends : List ℕ) (end : ℕ) → AreEnds start count ends → count ≤ end → AreEnds start end (ends ++ end ∷ [])
ends-more start count [] end h le = (omega (arith, h, le), refl)
ends-more start count (e ∷ ends) end h le = (h.0, ends-more e count ends end h.1 le)

module _ {A : Type 0} where
  -- ---- one list more

  inside : (start end : ℕ) (xs ys : List A) → start ≤ end → end ≤ length xs → take (end - start) (drop start (xs ++ ys)) ≡ take (end - start) (drop start xs)
  inside start end xs ys h w = ap (take (end - start)) (drop-append-le start xs ys (omega arith)) ∙ take-append-le (end - start) (drop start xs) ys (omega (arith, length-drop start xs))

  behind-all : (xs ys : List A) (end : ℕ) → end ≡ length (xs ++ ys) → take (end - length xs) (drop (length xs) (xs ++ ys)) ≡ ys
  behind-all xs ys end e = ap (take (end - length xs)) (drop_at xs ys (length xs) refl) ∙ take_all (end - length xs) ys (omega (arith, e, length-append xs ys))

  -- more elements change no list
  lists-longer : (start : ℕ) (xs ys : List A) (ends : List ℕ) → AreEnds start (length xs) ends → lists_from start (xs ++ ys) ends ≡ lists_from start xs ends
  lists-longer start xs ys [] h = refl
  lists-longer start xs ys (e ∷ ends) h = λ i. inside start e xs ys h.0 (begins-within e (length xs) ends h.1) i ∷ lists-longer e xs ys ends h.1 i

  lists-more : (start count : ℕ) (xs : List A) (ends : List ℕ) (end : ℕ) → AreEnds start count ends
      → lists_from start xs (ends ++ end ∷ []) ≡ lists_from start xs ends ++ take (end - count) (drop count xs) ∷ []
  lists-more start count xs [] end h = ap (λ m. take (end - m) (drop m xs) ∷ []) h
  lists-more start count xs (e ∷ ends) end h = ap (λ lists. take (e - start) (drop start xs) ∷ lists) (lists-more e count xs ends end h.1)

  pub list-put : (xs ys : List A) (ends : List ℕ) (end : ℕ) → AreEnds 0 (length xs) ends → end ≡ length (xs ++ ys)
      → lists_from 0 (xs ++ ys) (ends ++ end ∷ []) ≡ lists_from 0 xs ends ++ ys ∷ []
  list-put xs ys ends end h e = lists-more 0 (length xs) (xs ++ ys) ends end h ∙ (λ i. lists-longer 0 xs ys ends h i ++ behind-all xs ys end e i ∷ [])

  -- ---- the list with a number

  length-lists : (start : ℕ) (xs : List A) (ends : List ℕ) → length (lists_from start xs ends) ≡ length ends
  length-lists start xs [] = refl
  length-lists start xs (e ∷ ends) = ap (λ n. suc n) (length-lists e xs ends)

  list-at : (start : ℕ) (xs : List A) (ends : List ℕ) (i : ℕ) → i < length ends
      → get_or (lists_from start xs ends) i [] ≡ take (get_or ends i 0 - get_or (start ∷ ends) i 0) (drop (get_or (start ∷ ends) i 0) xs)
  list-at start xs [] i less = absurd (omega arith)
  list-at start xs (e ∷ ends) zero less = refl
  list-at start xs (e ∷ ends) (suc i) less = list-at e xs ends i (omega arith)

  -- one element alone
  single-at : (xs : List A) (i n : ℕ) → n ≡ 1 → i < length xs → get_or (map (λ x. x ∷ []) xs) i [] ≡ take n (drop i xs)
  single-at [] i n e less = absurd (omega arith)
  single-at (x ∷ xs) zero n e less = rw e refl
  single-at (x ∷ xs) (suc i) n e less = single-at xs i n e (omega arith)

  -- ---- where ends may be given

  lists-single : (xs : List A) (ends : List ℕ) → length ends ≡ 0 → lists_in xs ends ≡ map (λ x. x ∷ []) xs
  lists-single xs [] none = refl
  lists-single xs (e ∷ ends) none = absurd (omega (arith, none))

  lists-several : (xs : List A) (ends : List ℕ) → 0 < length ends → lists_in xs ends ≡ lists_from 0 xs ends
  lists-several xs [] some = absurd (omega arith)
  lists-several xs (e ∷ ends) some = refl

  pub length-several : (xs : List A) (ends : List ℕ) → 0 < length ends → length (lists_in xs ends) ≡ length ends
  length-several xs ends some = ap length (lists-several xs ends some) ∙ length-lists 0 xs ends

  -- of all ends that are put down
  pub lists-ended : (xs : List A) (ends : List ℕ) → AreEnds 0 (length xs) ends → lists_in xs ends ≡ lists_from 0 xs ends
  lists-ended [] [] h = refl
  lists-ended (x ∷ xs) [] h = absurd (omega (arith, h))
  lists-ended xs (e ∷ ends) h = refl

are-ends : (count : ℕ) (ends : List ℕ) → 0 < length ends → MayBeEnds count ends → AreEnds 0 count ends
are-ends count [] some h = absurd (omega arith)
are-ends count (e ∷ ends) some h = h

ends-at : (start count : ℕ) (ends : List ℕ) (i : ℕ) → AreEnds start count ends → i < length ends → (get_or (start ∷ ends) i 0 ≤ get_or ends i 0) × (get_or ends i 0 ≤ count)
ends-at start count [] i h less = absurd (omega arith)
ends-at start count (e ∷ ends) zero h less = (h.0, begins-within e count ends h.1)
ends-at start count (e ∷ ends) (suc i) h less = ends-at e count ends i h.1 (omega arith)

-- ---- the group with a number, of what is seen of each element

module _ {X A : Type 0} (view : X → A) (xs : List X) (ends : List ℕ) (lists : List (List A)) (i : ℕ) (seen : lists_in (map view xs) ends ≡ lists) (less : i < length lists) where
  -- each element is a list of its own
  module _ (none : length ends ≡ 0) where
    singles : lists ≡ map (λ x. x ∷ []) (map view xs)
    singles = sym seen ∙ lists-single (map view xs) ends none

    pub single-within : i < length xs
    single-within = omega (arith, less, ap length singles, length-map (map view xs) (λ (x : A). x ∷ []), length-map xs view)

    pub single-seen : map view (take (i + 1 - i) (drop i xs)) ≡ get_or lists i []
    single-seen =
        sym (take-map view (i + 1 - i) (drop i xs)) ∙ ap (take (i + 1 - i)) (sym (drop-map view i xs))
        ∙ sym (single-at (map view xs) i (i + 1 - i) (omega arith) (omega (arith, single-within, length-map xs view))) ∙ ap (λ ls. get_or ls i []) (sym singles)

  -- lists of several elements
  module _ (some : 0 < length ends) (h : MayBeEnds (length xs) ends) where
    several : lists ≡ lists_from 0 (map view xs) ends
    several = sym seen ∙ lists-several (map view xs) ends some

    pub number-within : i < length ends
    number-within = omega (arith, less, ap length several, length-lists 0 (map view xs) ends)

    module _ (start end : ℕ) (s : start ≡ get_or (0 ∷ ends) i 0) (e : end ≡ get_or ends i end) where
      end-is : end ≡ get_or ends i 0
      end-is = get_or_read ends i end number-within e 0

      pub list-within : (start ≤ end) × (end ≤ length xs)
      list-within = let w = ends-at 0 (length xs) ends i (are-ends (length xs) ends some h) number-within in (omega (arith, s, end-is, w.0), omega (arith, end-is, w.1))

      pub list-seen : map view (take (end - start) (drop start xs)) ≡ get_or lists i []
      list-seen =
          sym (take-map view (end - start) (drop start xs)) ∙ ap (take (end - start)) (sym (drop-map view start xs))
          ∙ (λ j. take (end-is j - s j) (drop (s j) (map view xs)))
          ∙ sym (list-at 0 (map view xs) ends i number-within) ∙ ap (λ ls. get_or ls i []) (sym several)
