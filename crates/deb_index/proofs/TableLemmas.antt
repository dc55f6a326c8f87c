-- Tables from names to items.
use Rattle.std.proofs.Common.{◌≡◌, ◌<◌, ℕ, Bool, true, false, not, cond, ◌||◌, List, [], ◌∷◌, ◌++◌, map, filter, length, get_or, set, Option, Some, None, IfSome, refl, sym, ap, ◌∙◌, subst, arith}
use Rattle.std.specs.List.{list_any, position}
use Rattle.std.specs.Str.{bytes_eq}
use Rattle.std.proofs.lemmas.List.{append-nil}
use Rattle.deb_index.specs.Packages.{first_of_each}
use Rattle.deb_index.specs.Tables.{items_of, number_in}
use Rattle.deb_index.proofs.FirstLemmas.{same-name, names-turned, name-itself, other-name, any-filter, any-filter-false, any-left-out}

-- no name stands twice
abbrev pub IsApart : List (List ℕ) → Type 0
IsApart [] = Unit {0}
IsApart (k ∷ ks) = (list_any (bytes_eq k) ks ≡ false) × IsApart ks

filter-apart : (keep : List ℕ → Bool) (ks : List (List ℕ)) → IsApart ks → IsApart (filter keep ks)
filter-apart keep [] a = tt
filter-apart keep (k ∷ ks) a = grind (arith, a, any-filter-false (bytes_eq k) keep ks, filter-apart keep ks a.1)

pub first-apart : (ks : List (List ℕ)) → IsApart (first_of_each bytes_eq ks)
unfolding first_of_each
first-apart [] = tt
first-apart (k ∷ ks) = (any-left-out (bytes_eq k) (first_of_each bytes_eq ks), filter-apart _ (first_of_each bytes_eq ks) (first-apart ks))

-- a name is among the first of each where it is among all
pub any-first : (name : List ℕ) (ks : List (List ℕ)) → list_any (bytes_eq name) (first_of_each bytes_eq ks) ≡ list_any (bytes_eq name) ks
unfolding first_of_each
any-first name [] = refl
any-first name (k ∷ ks) = by (bytes_eq name k) refl (any-first name ks)
  where
    by : (t : Bool) → bytes_eq name k ≡ t → list_any (bytes_eq name) (first_of_each bytes_eq ks) ≡ list_any (bytes_eq name) ks → list_any (bytes_eq name) (first_of_each bytes_eq (k ∷ ks)) ≡ list_any (bytes_eq name) (k ∷ ks)
    by true e ih = rw e refl
    by false e ih = rw e (any-filter (bytes_eq name) (λ y. not (bytes_eq k y)) (λ z h. ap not (subst (λ w. bytes_eq k w ≡ false) (same-name name z h) (other-name name k e))) (first_of_each bytes_eq ks) ∙ ih)

pub number-within : (name : List ℕ) (ks : List (List ℕ)) (i : ℕ) → number_in name ks ≡ Some i → i < length ks
number-within name [] i e = grind (arith, e)
number-within name (k ∷ ks) i e = grind (arith, e, number-within name ks)

pub known-within : (name : List ℕ) (ks : List (List ℕ)) (known : Option ℕ) → known ≡ number_in name ks → IfSome known (λ i. i < length ks)
known-within name ks None e = tt
known-within name ks (Some i) e = number-within name ks i (sym e)

module _ {T : Type 0} (name : List ℕ) (f g : List ℕ → T) (other : (k : List ℕ) → bytes_eq name k ≡ false → g k ≡ f k) where
  pub map-others : (ks : List (List ℕ)) → list_any (bytes_eq name) ks ≡ false → map g ks ≡ map f ks
  map-others [] h = refl
  map-others (k ∷ ks) h = grind (arith, h, other k, map-others ks)

  pub set-there : (ks : List (List ℕ)) (i : ℕ) → IsApart ks → number_in name ks ≡ Some i → map g ks ≡ set (map f ks) i (g name)
  set-there [] i a e = grind (arith, e)
  set-there (k ∷ ks) i a e =
      let ih : (j : ℕ) → number_in name ks ≡ Some j → map g ks ≡ set (map f ks) j (g name) = λ j. set-there ks j a.1 in
      grind (arith, a.0, e, other k, same-name name k, map-others ks, ih)

-- what a look-up by the bytes of a key answers
pub position-is : {K : Type 0} (name : List ℕ) (bytes : K → List ℕ) (ks : List K) → position (λ k. bytes_eq name (bytes k)) ks ≡ number_in name (map bytes ks)
position-is name bytes [] = refl
position-is name bytes (k ∷ ks) = grind (arith, position-is name bytes ks)

-- ---- the table

pub none-any : (name : List ℕ) (ks : List (List ℕ)) → number_in name ks ≡ None → list_any (bytes_eq name) ks ≡ false
none-any name [] e = refl
none-any name (k ∷ ks) e = grind (arith, e, none-any name ks)

pub some-any : (name : List ℕ) (ks : List (List ℕ)) (i : ℕ) → number_in name ks ≡ Some i → list_any (bytes_eq name) ks ≡ true
some-any name [] i e = grind (arith, e)
some-any name (k ∷ ks) i e = grind (arith, e, some-any name ks)

-- what a map has at a name's place
pub get-there : {T : Type 0} (name : List ℕ) (f : List ℕ → T) (ks : List (List ℕ)) (i : ℕ) (d : T) → number_in name ks ≡ Some i → get_or (map f ks) i d ≡ f name
get-there name f [] i d e = grind (arith, e)
get-there name f (k ∷ ks) i d e =
    let ih : (j : ℕ) → number_in name ks ≡ Some j → get_or (map f ks) j d ≡ f name = λ j. get-there name f ks j d in
    grind (arith, e, same-name name k, ih)

-- the same test with its sides turned
pub any-turned : (name : List ℕ) (ks : List (List ℕ)) → list_any (λ k. bytes_eq k name) ks ≡ list_any (bytes_eq name) ks
any-turned name [] = refl
any-turned name (k ∷ ks) = (λ i. names-turned k name i || any-turned name ks i)

pub names-chain : (a b c : List ℕ) → bytes_eq a b ≡ true → bytes_eq b c ≡ true → bytes_eq a c ≡ true
names-chain a b c e h = subst (λ w. bytes_eq a w ≡ true) (same-name b c h) e

module _ {T : Type 0} where
  pub items-push : (k name : List ℕ) (x : T) (pairs : List (List ℕ × T)) → items_of k (pairs ++ (name, x) ∷ []) ≡ items_of k pairs ++ cond (bytes_eq k name) (x ∷ []) []
  unfolding items_of
  items-push k name x [] = grind arith
  items-push k name x (p ∷ ps) = grind (arith, items-push k name x ps)

  pub items-same : (name : List ℕ) (x : T) (pairs : List (List ℕ × T)) → items_of name (pairs ++ (name, x) ∷ []) ≡ items_of name pairs ++ x ∷ []
  items-same name x pairs = items-push name name x pairs ∙ rw (name-itself name) refl

  pub items-other : (name : List ℕ) (x : T) (pairs : List (List ℕ × T)) (k : List ℕ) → bytes_eq name k ≡ false → items_of k (pairs ++ (name, x) ∷ []) ≡ items_of k pairs
  items-other name x pairs k e = items-push k name x pairs ∙ rw (other-name name k e) (append-nil (items_of k pairs))

  -- a name that no pair has
  pub no-items : (name : List ℕ) (pairs : List (List ℕ × T)) → list_any (bytes_eq name) (map (λ (p : List ℕ × T). p.0) pairs) ≡ false → items_of name pairs ≡ []
  unfolding items_of
  no-items name [] h = refl
  no-items name (p ∷ ps) h = grind (arith, h, no-items name ps)
