-- Lists: their fronts, their first element, and tests of their elements.
use Rattle.std.proofs.Common.{◌≡◌, suc, ◌+◌, ◌≤◌, Bool, true, false, cond, ◌||◌, List, [], ◌∷◌, Some, length, drop, refl, ap, ◌∙◌, arith}
use Rattle.std.specs.Prelude.{slice_get}
use Rattle.std.specs.List.{prefix_len, take_while, filter, list_any}
use Rattle.deb_control.specs.Fields.{skip_while}

-- one element more in front
module _ {A : Type 0} (p : A → Bool) (x : A) (xs : List A) where
  pub take_while-yes : p x ≡ true → take_while p (x ∷ xs) ≡ x ∷ take_while p xs
  take_while-yes e = let k : 1 + prefix_len p xs ≡ suc (prefix_len p xs) = omega arith in rw e (rw k refl)

  pub take_while-no : p x ≡ false → take_while p (x ∷ xs) ≡ []
  take_while-no e = rw e refl

  pub skip_while-yes : p x ≡ true → skip_while p (x ∷ xs) ≡ skip_while p xs
  skip_while-yes e = let k : 1 + prefix_len p xs ≡ suc (prefix_len p xs) = omega arith in rw e (rw k refl)

  pub skip_while-no : p x ≡ false → skip_while p (x ∷ xs) ≡ x ∷ xs
  skip_while-no e = rw e refl

pub first_is : {A : Type 0} (xs : List A) (x : A) → Some x ≡ slice_get xs 0 → xs ≡ x ∷ drop 1 xs
first_is [] x e = absurd cc
first_is (y ∷ xs) x e = cc

-- ---- tests of the elements

pub length-filter : {A : Type 0} (p : A → Bool) (xs : List A) → length (filter p xs) ≤ length xs
length-filter p [] = omega arith
length-filter p (x ∷ xs) = elim (p x) as (λ v. length (cond v (x ∷ filter p xs) (filter p xs)) ≤ suc (length xs)) [
  | true ↦ omega (arith, length-filter p xs)
  | false ↦ omega (arith, length-filter p xs)
]

pub any-alike : {A : Type 0} (f g : A → Bool) → ((x : A) → f x ≡ g x) → (xs : List A) → list_any f xs ≡ list_any g xs
any-alike f g same [] = refl
any-alike f g same (x ∷ xs) = rw (same x, any-alike f g same xs) refl

pub any-never : {A : Type 0} (xs : List A) → list_any (λ _. false) xs ≡ false
any-never [] = refl
any-never (x ∷ xs) = any-never xs

pub or-exchange : (a b c : Bool) → (a || (b || c)) ≡ (b || (a || c))
or-exchange true true c = refl
or-exchange true false c = refl
or-exchange false true c = refl
or-exchange false false c = refl

or-exchange_pairs : (a b c d : Bool) → ((a || b) || (c || d)) ≡ ((a || c) || (b || d))
or-exchange_pairs true b c d = refl
or-exchange_pairs false true true d = refl
or-exchange_pairs false true false d = refl
or-exchange_pairs false false c d = refl

pub any-either : {A : Type 0} (f g : A → Bool) (xs : List A) → list_any (λ x. f x || g x) xs ≡ (list_any f xs || list_any g xs)
any-either f g [] = refl
any-either f g (x ∷ xs) = ap (λ (b : Bool). (f x || g x) || b) (any-either f g xs) ∙ or-exchange_pairs (f x) (g x) (list_any f xs) (list_any g xs)
