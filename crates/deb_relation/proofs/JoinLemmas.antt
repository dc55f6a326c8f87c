-- Texts of images, one after the other.
use Rattle.std.proofs.Common.{◌≡◌, ℕ, List, [], ◌∷◌, ◌++◌, ap, map, refl}
use Rattle.std.proofs.lemmas.List.Folds.{flat_map-map}
use Rattle.std.specs.List.{flat_map, join_by}

-- the texts of images
pub joined_map : {A B : Type 0} (text : B → List ℕ) (f : A → B) (separator : List ℕ) (xs : List A) → join_by text separator (map f xs) ≡ join_by (λ x. text (f x)) separator xs
joined_map text f separator [] = refl
joined_map text f separator (x ∷ xs) = ap (λ rest. text (f x) ++ rest) (flat_map-map (λ y. separator ++ text y) f xs)

pub lines_map : {A B : Type 0} (text : B → List ℕ) (f : A → B) (xs : List A) → flat_map text (map f xs) ≡ flat_map (λ x. text (f x)) xs
lines_map text f xs = flat_map-map text f xs
