-- What a test of the element at a place answers, where a list is seen by a view.
use Rattle.std.proofs.Common.{◌≡◌, ◌<◌, ◌≤◌, ℕ, List, [], ◌∷◌, map, length, get_or, Option, refl, sym, ap, ◌∙◌, arith}
use Prim.Native.Nat.{suc, zero}
use Rattle.std.specs.Prelude.{slice_get}
use Rattle.std.specs.Option.{option_map, option_map_or}
use Rattle.std.proofs.lemmas.Option.{slice_get-map, slice_get-get_or}

pub seen-at : {A V B : Type 0} (view : A → V) (test : V → B) (none : B) (xs : List A) (i : ℕ) (x : A) → i < length xs → x ≡ get_or xs i x → test (view x) ≡ option_map_or test (slice_get (map view xs) i) none
seen-at {A} {V} view test none xs i x within at =
    ap (λ (y : A). test (view y)) at
    ∙ sym (ap (λ (o : Option V). option_map_or test o none) (slice_get-map view xs i ∙ ap (option_map view) (slice_get-get_or xs i x within)))

-- the same for a list that is seen as it is
pub seen-there : {V B : Type 0} (test : V → B) (none : B) (xs : List V) (i : ℕ) (d : V) → i < length xs → test (get_or xs i d) ≡ option_map_or test (slice_get xs i) none
seen-there {V} test none xs i d within = sym (ap (λ (o : Option V). option_map_or test o none) (slice_get-get_or xs i d within))

-- the same past the last place
pub seen-none : {V B : Type 0} (test : V → B) (none : B) (xs : List V) (i : ℕ) → length xs ≤ i → none ≡ option_map_or test (slice_get xs i) none
seen-none test none [] i h = refl
seen-none test none (x ∷ xs) zero h = absurd (omega arith)
seen-none test none (x ∷ xs) (suc i) h = seen-none test none xs i (omega arith)
