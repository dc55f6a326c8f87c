-- What holds of the parts of a flat list, and of the whole.
use Rattle.std.proofs.Common.{◌≡◌, ℕ, zero, suc, ◌+◌, ◌<◌, List, [], ◌∷◌, ◌++◌, flat_map, All, Contains, length, get_or, refl, ◌∙◌, ap, subst, arith}
use Rattle.std.proofs.lemmas.List.{length-append, get_or_append_left, get_or-append-add}
use Rattle.std.proofs.lemmas.List.Elements.{All-nil, All-append, Contains-append_left, Contains-append_right}

module _ {Y : Type 0} (P : Y → Type 0) where
  pub all_left : (xs ys : List Y) → All P (xs ++ ys) → All P xs
  all_left xs ys all k d inside = subst P (get_or_append_left xs ys d k inside) (all k d (omega (arith, length-append xs ys)))

  pub all_right : (xs ys : List Y) → All P (xs ++ ys) → All P ys
  all_right xs ys all k d inside = subst P (get_or-append-add xs ys k d) (all (length xs + k) d (omega (arith, length-append xs ys)))

module _ {X Y : Type 0} (P : Y → Type 0) (f : X → List Y) where
  pub all_flat : (xs : List X) → All (λ x. All P (f x)) xs → All P (flat_map f xs)
  all_flat [] each = All-nil P
  all_flat (x ∷ xs) each = All-append P (f x) (flat_map f xs) (each 0 x (omega arith)) (all_flat xs (λ k d inside. each (suc k) d (omega arith)))

  pub flat_all : (xs : List X) → All P (flat_map f xs) → All (λ x. All P (f x)) xs
  flat_all [] all k d inside = absurd (omega arith)
  flat_all (x ∷ xs) all zero d inside = all_left P (f x) (flat_map f xs) all
  flat_all (x ∷ xs) all (suc k) d inside = flat_all xs (all_right P (f x) (flat_map f xs) all) k d (omega arith)

module _ {X Y : Type 0} (f : X → List Y) where
  pub contains_flat : (xs : List X) (i : ℕ) (d : X) (y : Y) → i < length xs → Contains (f (get_or xs i d)) y → Contains (flat_map f xs) y
  contains_flat [] i d y inside there = absurd (omega arith)
  contains_flat (x ∷ xs) zero d y inside there = Contains-append_left (f x) (flat_map f xs) y there
  contains_flat (x ∷ xs) (suc i) d y inside there = Contains-append_right (f x) (flat_map f xs) y (contains_flat xs i d y (omega arith) there)

  pub flat_same : (g : X → List Y) (xs : List X) → All (λ x. f x ≡ g x) xs → flat_map f xs ≡ flat_map g xs
  flat_same g [] same = refl
  flat_same g (x ∷ xs) same = ap (λ part. part ++ flat_map f xs) (same 0 x (omega arith)) ∙ ap (λ rest. g x ++ rest) (flat_same g xs (λ k d inside. same (suc k) d (omega arith)))
