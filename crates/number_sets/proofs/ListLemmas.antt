-- Lemmas on lists.
use Rattle.std.proofs.Common.{◌≡◌, ℕ, zero, suc, ◌+◌, ◌<◌, ◌||◌, Bool, true, false, List, [], ◌∷◌, ◌++◌, All, Some, None, filter, find, length, get_or, take, map, refl, sym, ap, subst, ◌∙◌, append-nil, inl, inr, arith}
use Rattle.std.proofs.Math.Seq.{take-append_seam}
use Rattle.std.proofs.lemmas.Bool.{cases_Bool}
use Rattle.std.proofs.lemmas.List.{map-append, take_more}
use Rattle.std.proofs.lemmas.List.Folds.{list_any-append}
use Rattle.std.proofs.lemmas.List.Elements.{All-cons, All-get_or, All-head, All-nil, All-tail, filter-append}
use Rattle.std.specs.List.{list_any, range_with_len, zip}

-- what holds of each image holds of that of an element
pub all_at : {A B : Type 0} (P : B → Type 0) (f : A → B) (xs : List A) (i : ℕ) (x : A) → i < length xs → x ≡ get_or xs i x → All P (map f xs) → P (f x)
all_at P f [] i x inside is all = absurd (omega arith)
all_at {A = A} P f (y ∷ ys) zero x inside is all = let Q : A → Type 0 = λ v. P (f v) in subst Q (sym is) (All-head P (f y) (map f ys) all)
all_at P f (y ∷ ys) (suc i) x inside is all = let within : i < length ys = omega arith in all_at P f ys i x within is (All-tail P (f y) (map f ys) all)

-- what holds of each element
pub all_item : {A : Type 0} (P : A → Type 0) (xs : List A) (i : ℕ) (x : A) → i < length xs → x ≡ get_or xs i x → All P xs → P x
all_item P xs i x inside is all = subst P (sym is) (All-get_or P xs i x inside all)

-- one pair more
pub zip_more : {A B C : Type 0} (f : B → C) (xs : List A) (ys : List B) (i : ℕ) (d : A) (y : B) → i < length xs → i < length ys → y ≡ get_or ys i y
    → zip (take (i + 1) xs) (map f (take (i + 1) ys)) ≡ zip (take i xs) (map f (take i ys)) ++ (get_or xs i d, f y) ∷ []
zip_more f [] ys i d y inside within is = absurd (omega arith)
zip_more f (x ∷ xs) [] i d y inside within is = absurd (omega arith)
zip_more f (x ∷ xs) (z ∷ zs) zero d y inside within is = ap (λ v. (x, f v) ∷ []) (sym is)
zip_more f (x ∷ xs) (z ∷ zs) (suc i) d y inside within is =
    let front : i < length xs = omega arith in
    let back : i < length zs = omega arith in
    let more : suc i + 1 ≡ suc (i + 1) = omega arith in
    rw more (ap (λ rest. (x, f z) ∷ rest) (zip_more f xs zs i d y front back is))

-- the first that passes, at the first i
pub find_here : {A B : Type 0} (test : B → Bool) (f : A → B) (xs : List A) (i : ℕ) (x : A) → i < length xs → x ≡ get_or xs i x
    → find test (map f (take i xs)) ≡ None → test (f x) ≡ true → find test (map f xs) ≡ Some (f x)
find_here test f [] i x inside is before passes = absurd (omega arith)
find_here test f (y ∷ ys) zero x inside is before passes =
    let same : y ≡ x = sym is in
    rw (same, passes) refl
find_here test f (y ∷ ys) (suc i) x inside is before passes =
    let within : i < length ys = omega arith in
    elim (cases_Bool (test (f y))) [
      | inl earlier ↦ cc (rw earlier at before)
      | inr fails ↦ rw fails (find_here test f ys i x within is (rw fails at before) passes)
    ]

-- one more that fails
pub find_past : {A B : Type 0} (test : B → Bool) (f : A → B) (xs : List A) (i : ℕ) (x : A) → i < length xs → x ≡ get_or xs i x
    → find test (map f (take i xs)) ≡ None → test (f x) ≡ false → find test (map f (take (i + 1) xs)) ≡ None
find_past test f [] i x inside is before fails = absurd (omega arith)
find_past test f (y ∷ ys) zero x inside is before fails =
    let same : y ≡ x = sym is in
    rw (same, fails) refl
find_past test f (y ∷ ys) (suc i) x inside is before fails =
    let within : i < length ys = omega arith in
    let step : suc i + 1 ≡ suc (i + 1) = omega arith in
    elim (cases_Bool (test (f y))) [
      | inl earlier ↦ cc (rw earlier at before)
      | inr passed ↦ rw (step, passed) (find_past test f ys i x within is (rw passed at before) fails)
    ]

pub or_assoc : (a b c : Bool) → (a || b || c) ≡ (a || (b || c))
or_assoc true b c = refl
or_assoc false b c = refl

pub or_false : (a : Bool) → (a || false) ≡ a
or_false true = refl
or_false false = refl

-- one more that may pass
pub any_more : {A B : Type 0} (test : B → Bool) (f : A → B) (xs : List A) (i : ℕ) (x : A) → i < length xs → x ≡ get_or xs i x
    → list_any test (map f (take (i + 1) xs)) ≡ (list_any test (map f (take i xs)) || test (f x))
any_more test f xs i x inside is =
    ap (λ front. list_any test (map f front)) (take_more xs i x inside)
    ∙ ap (list_any test) (map-append f (take i xs) (get_or xs i x ∷ []))
    ∙ list_any-append test (map f (take i xs)) (f (get_or xs i x) ∷ [])
    ∙ ap (λ last. list_any test (map f (take i xs)) || last) (or_false (test (f (get_or xs i x))) ∙ ap (λ v. test (f v)) (sym is))

-- one number more
pub range_more : (a n k : ℕ) → a + n ≡ k → range_with_len a (n + 1) ≡ range_with_len a n ++ k ∷ []
range_more a zero k at =
    let here : a ≡ k = omega arith in
    ap (λ number. number ∷ []) here
range_more a (suc n) k at =
    let next : a + 1 + n ≡ k = omega arith in
    let step : suc n + 1 ≡ suc (n + 1) = omega arith in
    rw step (ap (λ rest. a ∷ rest) (range_more (a + 1) n k next))

-- the front of a list that goes on
pub front_of : {A : Type 0} (front rest : List A) (n : ℕ) → length front ≡ n → take n (front ++ rest) ≡ front
front_of front rest n size = rw (← size) (take-append_seam front rest)

-- where one passes, some does
pub any_here : {A B : Type 0} (test : B → Bool) (f : A → B) (xs : List A) (i : ℕ) (x : A) → i < length xs → x ≡ get_or xs i x → test (f x) ≡ true → list_any test (map f xs) ≡ true
any_here test f [] i x inside is passes = absurd (omega arith)
any_here test f (y ∷ ys) zero x inside is passes =
    let same : y ≡ x = sym is in
    rw (same, passes) refl
any_here test f (y ∷ ys) (suc i) x inside is passes =
    let within : i < length ys = omega arith in
    ap (λ rest. test (f y) || rest) (any_here test f ys i x within is passes) ∙ last (test (f y))
  where
    last : (b : Bool) → (b || true) ≡ true
    last true = refl
    last false = refl

-- what holds of each image
pub all_seen : {A B : Type 0} (P : B → Type 0) (f : A → B) (xs : List A) → All P (map f xs) → All (λ x. P (f x)) xs
all_seen P f [] all = All-nil (λ x. P (f x))
all_seen P f (x ∷ xs) all = All-cons (λ y. P (f y)) x xs (All-head P (f x) (map f xs) all) (all_seen P f xs (All-tail P (f x) (map f xs) all))

-- one element more that passes a test, and one that fails
pub filter_passes : {A : Type 0} (test : A → Bool) (xs more : List A) (x : A) → more ≡ xs ++ x ∷ [] → test x ≡ true → filter test more ≡ filter test xs ++ x ∷ []
filter_passes test xs more x e passes = ap (filter test) e ∙ filter-append test xs (x ∷ []) ∙ ap (λ last. filter test xs ++ last) (alone test x passes)
  where
    alone : {A : Type 0} (test : A → Bool) (x : A) → test x ≡ true → filter test (x ∷ []) ≡ x ∷ []
    alone test x passes = rw passes refl

pub filter_fails : {A : Type 0} (test : A → Bool) (xs more : List A) (x : A) → more ≡ xs ++ x ∷ [] → test x ≡ false → filter test more ≡ filter test xs
filter_fails test xs more x e fails = ap (filter test) e ∙ filter-append test xs (x ∷ []) ∙ ap (λ last. filter test xs ++ last) (alone test x fails) ∙ append-nil (filter test xs)
  where
    alone : {A : Type 0} (test : A → Bool) (x : A) → test x ≡ false → filter test (x ∷ []) ≡ []
    alone test x fails = rw fails refl

pub map-twice : {A B C : Type 0} (g : B → C) (f : A → B) (xs : List A) → map g (map f xs) ≡ map (λ x. g (f x)) xs
map-twice g f [] = refl
map-twice g f (x ∷ xs) = ap (λ rest. g (f x) ∷ rest) (map-twice g f xs)

-- of two lists behind one another each has what all of both have
pub All-front : {A : Type 0} (P : A → Type 0) (xs ys : List A) → All P (xs ++ ys) → All P xs
All-front P [] ys all = All-nil P
All-front P (x ∷ xs) ys all = All-cons P x xs (All-head P x (xs ++ ys) all) (All-front P xs ys (All-tail P x (xs ++ ys) all))

pub All-back : {A : Type 0} (P : A → Type 0) (xs ys : List A) → All P (xs ++ ys) → All P ys
All-back P [] ys all = all
All-back P (x ∷ xs) ys all = All-back P xs ys (All-tail P x (xs ++ ys) all)
