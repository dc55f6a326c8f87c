-- Lemmas on the places of the elements that pass a test.
use Rattle.std.proofs.Common.{◌≡◌, ℕ, zero, suc, ◌+◌, ◌<◌, ◌≤◌, ◌==◌, Bool, true, false, nat_le, slice_get, cond, not, List, [], ◌∷◌, ◌++◌, All, length, get_or, take, map, filter, append-nil, refl, sym, ap, ◌∙◌, inl, inr, arith}
use Rattle.std.proofs.lemmas.Bool.{cases_Bool}
use Rattle.std.proofs.lemmas.Bool.Decides.{nat_tests}
use Rattle.std.proofs.lemmas.List.Elements.{All-nil, All-cons}
use Rattle.std.specs.List.{enumerate_from, list_any}
use Rattle.std.specs.Option.{option_map_or}

-- those places, where the first element stands at n
abbrev pub places_from : {A : Type 0} → (A → Bool) → ℕ → List A → List ℕ
places_from test n xs = map (λ e. e.0) (filter (λ e. test e.1) (enumerate_from n xs))

-- with one there are some
pub one-is-some : (place : ℕ) (places : List ℕ) → (length (place ∷ places) == 0) ≡ false
one-is-some place places = grind (arith, nat_tests)

-- whether k is one of the places
abbrev pub is_among : ℕ → List ℕ → Bool
is_among k places = list_any (λ place. place == k) places

-- each place has an element
pub places-within : {A : Type 0} (test : A → Bool) (n m : ℕ) (xs : List A) → n + length xs ≤ m → All (λ place. place < m) (places_from test n xs)
places-within test n m [] fits = All-nil (λ place. place < m)
places-within test n m (x ∷ xs) fits =
    let inside : n < m = omega arith in
    let later : All (λ place. place < m) (places_from test (n + 1) xs) = places-within test (n + 1) m xs (omega arith) in
    elim (cases_Bool (test x)) [
      | inl passes ↦ rw passes (All-cons (λ place. place < m) n (places_from test (n + 1) xs) inside later)
      | inr fails ↦ rw fails later
    ]

-- and no more than one
pub places-few : {A : Type 0} (test : A → Bool) (n : ℕ) (xs : List A) → length (places_from test n xs) ≤ length xs
places-few test n [] = omega arith
places-few test n (x ∷ xs) =
    let later : length (places_from test (n + 1) xs) ≤ length xs = places-few test (n + 1) xs in
    elim (cases_Bool (test x)) [
      | inl passes ↦ rw passes (omega arith)
      | inr fails ↦ rw fails (omega arith)
    ]

-- one element more
pub places-more : {A : Type 0} (test : A → Bool) (n i k : ℕ) (xs : List A) (d : A) → n + i ≡ k → i < length xs
    → places_from test n (take (i + 1) xs) ≡ places_from test n (take i xs) ++ cond (test (get_or xs i d)) (k ∷ []) []
places-more test n i k [] d at inside = absurd (omega arith)
places-more test n zero k (x ∷ xs) d at inside =
    let here : n ≡ k = omega arith in
    elim (cases_Bool (test x)) [
      | inl passes ↦ rw passes (ap (λ place. place ∷ []) here)
      | inr fails ↦ rw fails refl
    ]
places-more test n (suc i) k (x ∷ xs) d at inside =
    let next : n + 1 + i ≡ k = omega arith in
    let within : i < length xs = omega arith in
    let step : suc i + 1 ≡ suc (i + 1) = omega arith in
    let later : places_from test (n + 1) (take (i + 1) xs) ≡ places_from test (n + 1) (take i xs) ++ cond (test (get_or xs i d)) (k ∷ []) [] = places-more test (n + 1) i k xs d next within in
    elim (cases_Bool (test x)) [
      | inl passes ↦ rw (step, passes) (ap (λ rest. n ∷ rest) later)
      | inr fails ↦ rw (step, fails) later
    ]

-- marks that tell which elements pass
pub places-marked : {A : Type 0} (test : A → Bool) (n : ℕ) (marks : List Bool) (xs : List A) (d : A) → length marks ≡ length xs
    → ((k : ℕ) → k < length xs → get_or marks k false ≡ test (get_or xs k d)) → places_from (λ mark. mark) n marks ≡ places_from test n xs
places-marked test n [] [] d same tell = refl
places-marked test n [] (x ∷ xs) d same tell = absurd (omega arith)
places-marked test n (mark ∷ marks) [] d same tell = absurd (omega arith)
places-marked test n (mark ∷ marks) (x ∷ xs) d same tell =
    let first : mark ≡ test x = tell 0 (omega arith) in
    let count : length marks ≡ length xs = omega arith in
    let later : places_from (λ m. m) (n + 1) marks ≡ places_from test (n + 1) xs = places-marked test (n + 1) marks xs d count (λ k inside. tell (suc k) (omega arith)) in
    elim (cases_Bool (test x)) [
      | inl passes ↦ rw (first, passes) (ap (λ rest. n ∷ rest) later)
      | inr fails ↦ rw (first, fails) later
    ]

-- one mark more, set or not
pub marked_more : (marks : List Bool) (i : ℕ) (places new : List ℕ) → i < length marks → places ≡ places_from (λ mark. mark) 0 (take i marks)
    → get_or marks i false ≡ true → new ≡ places ++ i ∷ [] → new ≡ places_from (λ mark. mark) 0 (take (i + 1) marks)
marked_more marks i places new inside before set step =
    let at : 0 + i ≡ i = omega arith in
    step ∙ ap (λ front. front ++ i ∷ []) before
    ∙ sym (places-more (λ mark. mark) 0 i i marks false at inside ∙ ap (λ mark. places_from (λ m. m) 0 (take i marks) ++ cond mark (i ∷ []) []) set)

pub unmarked_more : (marks : List Bool) (i : ℕ) (places : List ℕ) → i < length marks → places ≡ places_from (λ mark. mark) 0 (take i marks)
    → get_or marks i false ≡ false → places ≡ places_from (λ mark. mark) 0 (take (i + 1) marks)
unmarked_more marks i places inside before unset =
    let at : 0 + i ≡ i = omega arith in
    before
    ∙ sym (places-more (λ mark. mark) 0 i i marks false at inside ∙ ap (λ mark. places_from (λ m. m) 0 (take i marks) ++ cond mark (i ∷ []) []) unset
    ∙ append-nil (places_from (λ mark. mark) 0 (take i marks)))

-- there is no first place below the limit
abbrev pub none_below : ℕ → List ℕ → Bool
none_below limit places = option_map_or (λ place. nat_le limit place) (slice_get places 0) true

first_later : {A : Type 0} (test : A → Bool) (n limit : ℕ) (xs : List A) → limit ≤ n → none_below limit (places_from test n xs) ≡ true
first_later test n limit [] later = refl
first_later test n limit (x ∷ xs) later =
    let others : none_below limit (places_from test (n + 1) xs) ≡ true = first_later test (n + 1) limit xs (omega arith) in
    let here : nat_le limit n ≡ true = grind (arith, nat_tests) in
    elim (cases_Bool (test x)) [
      | inl passes ↦ rw passes here
      | inr fails ↦ rw fails others
    ]

-- no element of the front passes exactly where the first place lies behind it
pub none_in_front : {A : Type 0} (test : A → Bool) (n front : ℕ) (xs : List A) → (length (places_from test n (take front xs)) == 0) ≡ none_below (n + front) (places_from test n xs)
none_in_front test n zero xs =
    let later : none_below (n + zero) (places_from test n xs) ≡ true = first_later test n (n + zero) xs (omega arith) in
    sym later
none_in_front test n (suc front) [] = refl
none_in_front test n (suc front) (x ∷ xs) =
    let rest : (length (places_from test (n + 1) (take front xs)) == 0) ≡ none_below (n + 1 + front) (places_from test (n + 1) xs) = none_in_front test (n + 1) front xs in
    let step : n + 1 + front ≡ n + suc front = omega arith in
    let here : nat_le (n + suc front) n ≡ false = grind (arith, nat_tests) in
    elim (cases_Bool (test x)) [
      | inl passes ↦ rw (passes, here) (one-is-some n (places_from test (n + 1) (take front xs)))
      | inr fails ↦ rw (fails, ← step) rest
    ]

-- there are no places where no element passes
pub none-where : {A : Type 0} (test : A → Bool) (n : ℕ) (xs : List A) → (length (places_from test n xs) == 0) ≡ not (list_any test xs)
none-where test n [] = refl
none-where test n (x ∷ xs) =
    elim (cases_Bool (test x)) [
      | inl passes ↦ rw passes (one-is-some n (places_from test (n + 1) xs))
      | inr fails ↦ rw fails (none-where test (n + 1) xs)
    ]
