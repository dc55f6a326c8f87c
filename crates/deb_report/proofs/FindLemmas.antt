-- The first of the images of a list that passes a test.
use Rattle.std.proofs.Common.{◌≡◌, Bool, List, None, Option, Some, [], ◌∷◌, find, inl, inr, map, option_map, refl}
use Rattle.std.proofs.lemmas.Bool.{cases_Bool}

pub find-map : {A B : Type 0} (test : B → Bool) (f : A → B) (xs : List A) → option_map f (find (λ x. test (f x)) xs) ≡ find test (map f xs)
find-map test f [] = refl
find-map test f (x ∷ xs) =
    elim (cases_Bool (test (f x))) [
      | inl passes ↦ rw passes refl
      | inr fails ↦ rw fails (find-map test f xs)
    ]

pub mapped-twice : {A B C : Type 0} (g : B → C) (f : A → B) (found : Option A) → option_map (λ x. g (f x)) found ≡ option_map g (option_map f found)
mapped-twice g f None = refl
mapped-twice g f (Some x) = refl
