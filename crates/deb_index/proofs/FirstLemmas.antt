-- The first of each kind, and tests over filtered lists.
use Rattle.std.proofs.Common.{◌≡◌, ℕ, Bool, true, false, not, cond, ◌||◌, List, [], ◌∷◌, ◌++◌, map, filter, refl, ap, ◌∙◌, arith}
use Rattle.std.specs.List.{list_any}
use Rattle.std.specs.Str.{bytes_eq}
use Rattle.std.specs.Cmp.Lexicographic.{bytes_decides}
use Rattle.std.proofs.lemmas.List.{append-nil}
use Rattle.std.proofs.lemmas.List.Elements.{filter-append}
use Rattle.deb_index.specs.Packages.{first_of_each}

pub same-name : (a b : List ℕ) → bytes_eq a b ≡ true → a ≡ b
same-name a b e = (bytes_decides a b).0 e

pub name-itself : (a : List ℕ) → bytes_eq a a ≡ true
name-itself a = (bytes_decides a a).1 refl

pub other-name : (a b : List ℕ) → bytes_eq a b ≡ false → bytes_eq b a ≡ false
other-name a b e = grind (arith, same-name b a, name-itself b)

pub names-turned : (a b : List ℕ) → bytes_eq a b ≡ bytes_eq b a
names-turned a b = grind (arith, same-name b a, other-name b a)

-- ---- tests over a list that is seen through a view

pub any-map : {A B : Type 0} (test : B → Bool) (f : A → B) (xs : List A) → list_any test (map f xs) ≡ list_any (λ x. test (f x)) xs
any-map test f [] = refl
any-map test f (x ∷ xs) = ap (λ r. test (f x) || r) (any-map test f xs)

-- ---- tests over a filtered list

module _ {A : Type 0} where
  pub any-filter : (p keep : A → Bool) → ((z : A) → p z ≡ true → keep z ≡ true) → (xs : List A) → list_any p (filter keep xs) ≡ list_any p xs
  any-filter p keep all [] = refl
  any-filter p keep all (x ∷ xs) = grind (arith, all x, any-filter p keep all xs)

  pub any-filter-false : (p keep : A → Bool) (xs : List A) → list_any p xs ≡ false → list_any p (filter keep xs) ≡ false
  any-filter-false p keep [] h = refl
  any-filter-false p keep (x ∷ xs) h = grind (arith, h, any-filter-false p keep xs)

  pub any-left-out : (p : A → Bool) (xs : List A) → list_any p (filter (λ y. not (p y)) xs) ≡ false
  any-left-out p [] = refl
  any-left-out p (x ∷ xs) = grind (arith, any-left-out p xs)

  -- the step of first-push, over the first of each of what is behind
  push-step : (same : A → A → Bool) → ((a b c : A) → same a b ≡ true → same b c ≡ true → same a c ≡ true) → (y x : A) (front : List A) (t c : Bool)
      → same y x ≡ t → list_any (λ z. same z x) front ≡ c
      → y ∷ filter (λ z. not (same y z)) (cond c front (front ++ x ∷ []))
      ≡ cond (t || list_any (λ z. same z x) (filter (λ z. not (same y z)) front)) (y ∷ filter (λ z. not (same y z)) front) ((y ∷ filter (λ z. not (same y z)) front) ++ x ∷ [])
  push-step same trans y x front true true e h = refl
  push-step same trans y x front true false e h = ap (λ r. y ∷ r) (filter-append (λ z. not (same y z)) front (x ∷ []) ∙ rw e (append-nil (filter (λ z. not (same y z)) front)))
  push-step same trans y x front false true e h =
      let there = any-filter (λ z. same z x) (λ z. not (same y z)) (λ z g. ap not (apart z g)) front ∙ h in
      rw there refl
    where
      apart : (z : A) → same z x ≡ true → same y z ≡ false
      apart z g = grind (arith, e, g, trans y z x)
  push-step same trans y x front false false e h =
      let none = any-filter-false (λ z. same z x) (λ z. not (same y z)) front h in
      rw none (ap (λ r. y ∷ r) (filter-append (λ z. not (same y z)) front (x ∷ []) ∙ rw e refl))

  -- one more element is there already, or goes last
  pub first-push : (same : A → A → Bool) → ((a b c : A) → same a b ≡ true → same b c ≡ true → same a c ≡ true) → (xs : List A) (x : A)
      → first_of_each same (xs ++ x ∷ []) ≡ cond (list_any (λ y. same y x) (first_of_each same xs)) (first_of_each same xs) (first_of_each same xs ++ x ∷ [])
  unfolding first_of_each
  first-push same trans [] x = refl
  first-push same trans (y ∷ ys) x = ap (λ r. y ∷ filter (λ z. not (same y z)) r) (first-push same trans ys x) ∙ push-step same trans y x (first_of_each same ys) _ _ refl refl
