-- Answers to the parts of a list are answers to the list.
use Rattle.std.proofs.Common.{◌≡◌, ℕ, zero, suc, ◌+◌, ◌-◌, ◌*◌, ◌<◌, ◌≤◌, List, [], ◌∷◌, ◌++◌, All, take, drop, length, get_or, flat_map, map, Result, Ok, Err, IfOk, sym, ap, ◌∙◌, subst, refl, arith, min, take-append-drop, drop-drop, drop_of_length-le, take_all}
use Rattle.std.specs.List.{range_with_len}
use Rattle.std.proofs.lemmas.List.{length-drop, take_min, take_more}
use Rattle.std.proofs.lemmas.List.Elements.{All-cons, All-nil}
use Rattle.work_draw.specs.declared.pieces.Piece.{Piece}
use Rattle.work_draw.specs.Checks.{AnswersEach, chunk_of, numbers_of}

module _ {A B : Type 0} (R : A → B → Type 0) where
  pub AnswersEach-append : (xs xs' : List A) (ys ys' : List B) → AnswersEach R xs ys → AnswersEach R xs' ys' → AnswersEach R (xs ++ xs') (ys ++ ys')
  AnswersEach-append [] xs' [] ys' h h' = h'
  AnswersEach-append (x ∷ xs) xs' (y ∷ ys) ys' h h' = (h.0, AnswersEach-append xs xs' ys ys' h.1 h')
  AnswersEach-append xs xs' ys ys' h h' = absurd h

  pub AnswersEach_more : (xs : List A) (i : ℕ) (d : A) (ys : List B) (y : B) → i < length xs → AnswersEach R (take i xs) ys → R (get_or xs i d) y → AnswersEach R (take (i + 1) xs) (ys ++ y ∷ [])
  AnswersEach_more xs i d ys y lt h here = subst (λ (l : List A). AnswersEach R l (ys ++ y ∷ [])) (sym (take_more xs i d lt)) (AnswersEach-append (take i xs) (get_or xs i d ∷ []) ys (y ∷ []) h (here, tt))

  -- the pieces numbered from a on answer what is asked from a * size on
  from_chunk : {V : Type 0} (items_of : Piece V → List B) (asked : List A) (size a n : ℕ) (ps : List (Piece V)) → numbers_of ps ≡ range_with_len a n → length asked ≤ (a + n) * size
      → All (λ p. AnswersEach R (chunk_of asked size p.number) (items_of p)) ps → AnswersEach R (drop (a * size) asked) (flat_map (λ p. items_of p) ps)
  from_chunk items_of asked size a zero [] e enough h = subst (λ (l : List A). AnswersEach R l []) (sym (drop_of_length-le asked {i = a * size} (omega arith))) tt
  from_chunk items_of asked size a zero (p ∷ ps) e enough h = absurd (cc)
  from_chunk items_of asked size a (suc n) [] e enough h = absurd (cc)
  from_chunk items_of asked size a (suc n) (p ∷ ps) e enough h =
      let first : p.number ≡ a = cc in
      let others : numbers_of ps ≡ range_with_len (a + 1) n = cc in
      let here = subst (λ (k : ℕ). AnswersEach R (chunk_of asked size k) (items_of p)) first (h 0 p (omega arith)) in
      let rest = from_chunk items_of asked size (a + 1) n ps others (omega arith) (λ k d lt. h (suc k) d (omega arith)) in
      let both = AnswersEach-append (take size (drop (a * size) asked)) (drop ((a + 1) * size) asked) (items_of p) (flat_map (λ q. items_of q) ps) here rest in
      let next : drop ((a + 1) * size) asked ≡ drop size (drop (a * size) asked) = ap (λ (k : ℕ). drop k asked) (omega arith) ∙ sym (drop-drop size (a * size) asked) in
      subst (λ (l : List A). AnswersEach R l (items_of p ++ flat_map (λ q. items_of q) ps)) (ap (λ (l : List A). take size (drop (a * size) asked) ++ l) next ∙ take-append-drop size (drop (a * size) asked)) both

  -- pieces in order answer all that is asked
  pub answers_in_order : {V : Type 0} (items_of : Piece V → List B) (asked : List A) (size n : ℕ) (ps : List (Piece V)) → numbers_of ps ≡ range_with_len 0 n → length asked ≤ n * size
      → All (λ p. AnswersEach R (chunk_of asked size p.number) (items_of p)) ps → AnswersEach R asked (flat_map (λ p. items_of p) ps)
  answers_in_order items_of asked size n ps e enough h = let none : 0 * size ≡ 0 = omega arith in subst (λ (k : ℕ). AnswersEach R (drop k asked) (flat_map (λ p. items_of p) ps)) none (from_chunk items_of asked size 0 n ps e (omega arith) h)

-- what is said twice of a result
pub IfOk-both : {A E : Type 0} (r : Result A E) (P Q : A → Type 0) → IfOk r P → IfOk r Q → IfOk r (λ x. P x × Q x)
IfOk-both (Ok x) P Q one other = (one, other)
IfOk-both (Err e) P Q one other = tt

-- answers that say as much, seen by view
module _ {A B C : Type 0} (R : A → B → Type 0) (S : A → C → Type 0) (view : B → C) (says : (a : A) (b : B) → R a b → S a (view b)) where
  pub AnswersEach-map : (xs : List A) (ys : List B) → AnswersEach R xs ys → AnswersEach S xs (map view ys)
  AnswersEach-map [] [] h = tt
  AnswersEach-map (x ∷ xs) (y ∷ ys) h = (says x y h.0, AnswersEach-map xs ys h.1)
  AnswersEach-map xs ys h = absurd h

-- what each answer has by itself, seen by view
module _ {A B C : Type 0} (R : A → B → Type 0) (P : C → Type 0) (view : B → C) (says : (a : A) (b : B) → R a b → P (view b)) where
  pub AnswersEach-All : (xs : List A) (ys : List B) → AnswersEach R xs ys → All P (map view ys)
  AnswersEach-All [] [] h = All-nil P
  AnswersEach-All (x ∷ xs) (y ∷ ys) h = All-cons P (view y) (map view ys) (says x y h.0) (AnswersEach-All xs ys h.1)
  AnswersEach-All xs ys h = absurd h

-- there are as many answers as questions
pub AnswersEach-length : {A B : Type 0} (R : A → B → Type 0) (xs : List A) (ys : List B) → AnswersEach R xs ys → length ys ≡ length xs
AnswersEach-length R [] [] h = refl
AnswersEach-length R (x ∷ xs) (y ∷ ys) h = ap suc (AnswersEach-length R xs ys h.1)
AnswersEach-length R xs ys h = absurd h

-- the first of those from a place on, cut twice, are a chunk
pub chunk_cut : {A : Type 0} (asked : List A) (begin size count : ℕ) → count ≡ min (length (take (length asked - begin) (drop begin asked))) size
    → take count (take (length asked - begin) (drop begin asked)) ≡ take size (drop begin asked)
chunk_cut asked begin size count is =
    let fits : length (drop begin asked) ≤ length asked - begin = rw length-drop (omega arith) in
    let rest : take (length asked - begin) (drop begin asked) ≡ drop begin asked = take_all _ _ fits in
    let same : count ≡ min size (length (drop begin asked)) = omega (arith, is, ap length rest) in
    ap (λ l. take count l) rest ∙ (ap (λ n. take n (drop begin asked)) same ∙ take_min size (drop begin asked))
