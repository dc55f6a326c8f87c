-- The first of each kind, and lists that are seen through a view.
use Rattle.std.proofs.Common.{◌≡◌, ℕ, zero, suc, ◌+◌, ◌&&◌, ◌||◌, Bool, true, false, not, cond, List, [], ◌∷◌, ◌++◌, All, filter, length, map, slice_get, Some, refl, sym, ap, ap₂, ◌∙◌, subst, arith}
use Rattle.std.specs.List.{flat_map, list_all, list_any, range_with_len}
use Rattle.std.specs.Str.{bytes_eq}
use Rattle.std.proofs.lemmas.List.Elements.{All-cons, All-filter, All-head, All-nil, All-same, All-tail}
use Rattle.deb_index.specs.Packages.{first_of_each}

module _ {A : Type 0} (same : A → A → Bool) where
  -- it is the first of the list of its kind
  abbrev pub Starts : List A → A → Type 0
  Starts xs d = (rest : List A) × (filter (same d) xs ≡ d ∷ rest)

  starts-kept : ((a b : A) → same a b ≡ same b a) → (x : A) (xs ds : List A) → All (Starts xs) ds → All (Starts (x ∷ xs)) (filter (λ y. not (same x y)) ds)
  starts-kept turned x xs [] all = All-nil (Starts (x ∷ xs))
  starts-kept turned x xs (d ∷ ds) all = by (same x d) refl (starts-kept turned x xs ds (All-tail (Starts xs) d ds all))
    where
      by : (t : Bool) → same x d ≡ t → All (Starts (x ∷ xs)) (filter (λ y. not (same x y)) ds) → All (Starts (x ∷ xs)) (filter (λ y. not (same x y)) (d ∷ ds))
      by true e rest =
          All-same (Starts (x ∷ xs)) (filter (λ y. not (same x y)) (d ∷ ds)) (filter (λ y. not (same x y)) ds)
          (ap (λ b. cond (not b) (d ∷ filter (λ y. not (same x y)) ds) (filter (λ y. not (same x y)) ds)) e) rest
      by false e rest =
          let own : Starts xs d = All-head (Starts xs) d ds all in
          let past : same d x ≡ false = turned d x ∙ e in
          let here : Starts (x ∷ xs) d = (own.0, ap (λ b. cond b (x ∷ filter (same d) xs) (filter (same d) xs)) past ∙ own.1) in
          All-same (Starts (x ∷ xs)) (filter (λ y. not (same x y)) (d ∷ ds)) (d ∷ filter (λ y. not (same x y)) ds)
          (ap (λ b. cond (not b) (d ∷ filter (λ y. not (same x y)) ds) (filter (λ y. not (same x y)) ds)) e)
          (All-cons (Starts (x ∷ xs)) d (filter (λ y. not (same x y)) ds) here rest)

  pub first-starts : ((a : A) → same a a ≡ true) → ((a b : A) → same a b ≡ same b a) → (xs : List A) → All (Starts xs) (first_of_each same xs)
  unfolding first_of_each
  first-starts itself turned [] = All-nil (Starts [])
  first-starts itself turned (x ∷ xs) =
      let here : Starts (x ∷ xs) x = (filter (same x) xs, ap (λ b. cond b (x ∷ filter (same x) xs) (filter (same x) xs)) (itself x)) in
      All-cons (Starts (x ∷ xs)) x (filter (λ y. not (same x y)) (first_of_each same xs)) here (starts-kept turned x xs (first_of_each same xs) (first-starts itself turned xs))

  pub first-kept : (P : A → Type 0) (xs : List A) → All P xs → All P (first_of_each same xs)
  unfolding first_of_each
  first-kept P [] all = All-nil P
  first-kept P (x ∷ xs) all =
      All-cons P x (filter (λ y. not (same x y)) (first_of_each same xs)) (All-head P x xs all)
      (All-filter (λ y. not (same x y)) P (first_of_each same xs) (first-kept P xs (All-tail P x xs all)))

  -- ---- by keys

  module _ (key : A → List ℕ) (P : A → Type 0) (one-key : (a b : A) → P a → P b → bytes_eq (key a) (key b) ≡ same a b) where
    filter-keyed : (x : A) (ys : List A) → P x → All P ys → filter (λ y. not (bytes_eq (key x) y)) (map key ys) ≡ map key (filter (λ y. not (same x y)) ys)
    filter-keyed x [] known all = refl
    filter-keyed x (y ∷ ys) known all = by (same x y) refl (filter-keyed x ys known (All-tail P y ys all))
      where
        by : (t : Bool) → same x y ≡ t → filter (λ z. not (bytes_eq (key x) z)) (map key ys) ≡ map key (filter (λ z. not (same x z)) ys)
            → filter (λ z. not (bytes_eq (key x) z)) (map key (y ∷ ys)) ≡ map key (filter (λ z. not (same x z)) (y ∷ ys))
        by true e rest = rw (one-key x y known (All-head P y ys all), e) rest
        by false e rest = rw (one-key x y known (All-head P y ys all), e) (ap (λ keys. key y ∷ keys) rest)

    pub first-keyed : (xs : List A) → All P xs → first_of_each bytes_eq (map key xs) ≡ map key (first_of_each same xs)
    unfolding first_of_each
    first-keyed [] all = refl
    first-keyed (x ∷ xs) all =
        let later : All P xs = All-tail P x xs all in
        ap (λ rest. key x ∷ rest)
        (ap (filter (λ y. not (bytes_eq (key x) y))) (first-keyed xs later) ∙ filter-keyed x (first_of_each same xs) (All-head P x xs all) (first-kept P xs later))

-- ---- tests that say of each element what others say of its image

module _ {A B : Type 0} (test : A → Bool) (other : B → Bool) (f : A → B) where
  pub filter-seen : (xs : List A) → All (λ x. test x ≡ other (f x)) xs → map f (filter test xs) ≡ filter other (map f xs)
  filter-seen [] all = refl
  filter-seen (x ∷ xs) all = by (test x) refl (filter-seen xs (All-tail (λ y. test y ≡ other (f y)) x xs all))
    where
      also : test x ≡ other (f x)
      also = All-head (λ y. test y ≡ other (f y)) x xs all

      by : (t : Bool) → test x ≡ t → map f (filter test xs) ≡ filter other (map f xs) → map f (filter test (x ∷ xs)) ≡ filter other (map f (x ∷ xs))
      by true e rest = rw (← also, e) (ap (λ ys. f x ∷ ys) rest)
      by false e rest = rw (← also, e) rest

  pub any-seen : (xs : List A) → All (λ x. test x ≡ other (f x)) xs → list_any test xs ≡ list_any other (map f xs)
  any-seen [] all = refl
  any-seen (x ∷ xs) all = ap₂ (λ a b. a || b) (All-head (λ y. test y ≡ other (f y)) x xs all) (any-seen xs (All-tail (λ y. test y ≡ other (f y)) x xs all))

  pub all-seen : (xs : List A) → All (λ x. test x ≡ other (f x)) xs → list_all test xs ≡ list_all other (map f xs)
  all-seen [] all = refl
  all-seen (x ∷ xs) all = ap₂ (λ a b. a && b) (All-head (λ y. test y ≡ other (f y)) x xs all) (all-seen xs (All-tail (λ y. test y ≡ other (f y)) x xs all))

-- ---- lists of lists

all-left : {A : Type 0} (P : A → Type 0) (xs ys : List A) → All P (xs ++ ys) → All P xs
all-left P [] ys all = All-nil P
all-left P (x ∷ xs) ys all = All-cons P x xs (All-head P x (xs ++ ys) all) (all-left P xs ys (All-tail P x (xs ++ ys) all))

all-right : {A : Type 0} (P : A → Type 0) (xs ys : List A) → All P (xs ++ ys) → All P ys
all-right P [] ys all = all
all-right P (x ∷ xs) ys all = all-right P xs ys (All-tail P x (xs ++ ys) all)

pub all-each : {A B : Type 0} (P : B → Type 0) (f : A → List B) (xs : List A) → All P (flat_map f xs) → All (λ x. All P (f x)) xs
all-each P f [] all = All-nil (λ x. All P (f x))
all-each P f (x ∷ xs) all = All-cons (λ y. All P (f y)) x xs (all-left P (f x) (flat_map f xs) all) (all-each P f xs (all-right P (f x) (flat_map f xs) all))

-- ---- what has each place of a list

pub range-seen : {A B : Type 0} (f : ℕ → A) (g : B → A) (ds : List B) (a : ℕ) → ((k : ℕ) (d : B) → slice_get ds k ≡ Some d → f (a + k) ≡ g d) → map f (range_with_len a (length ds)) ≡ map g ds
range-seen f g [] a is = refl
range-seen f g (d ∷ ds) a is =
    let here : a + 0 ≡ a = omega arith in
    ap₂ (λ x xs. x ∷ xs) (ap f (sym here) ∙ is 0 d refl)
    (range-seen f g ds (a + 1) (λ k e at. let next : (a + 1) + k ≡ a + suc k = omega arith in ap f next ∙ is (suc k) e at))

pub all-get : {A : Type 0} (P : A → Type 0) (xs : List A) (k : ℕ) (x : A) → All P xs → slice_get xs k ≡ Some x → P x
all-get P [] k x all at = cc
all-get P (y ∷ ys) zero x all at = let same : y ≡ x = cc in subst P same (All-head P y ys all)
all-get P (y ∷ ys) (suc k) x all at = all-get P ys k x (All-tail P y ys all) at

pub range-all : {A B : Type 0} (P : A → Type 0) (f : ℕ → A) (ds : List B) (a : ℕ) → ((k : ℕ) (d : B) → slice_get ds k ≡ Some d → P (f (a + k))) → All P (map f (range_with_len a (length ds)))
range-all P f [] a each = All-nil P
range-all P f (d ∷ ds) a each =
    let here : a + 0 ≡ a = omega arith in
    All-cons P (f a) (map f (range_with_len (a + 1) (length ds))) (subst (λ k. P (f k)) here (each 0 d refl))
    (range-all P f ds (a + 1) (λ k e at. let next : a + suc k ≡ (a + 1) + k = omega arith in subst (λ j. P (f j)) next (each (suc k) e at)))
