-- Texts in one line, and last calls.
use Rattle.std.proofs.Common.{◌≡◌, ◌==◌, ◌∙◌, ℕ, OnOk, Result, Ok, Err, is_ok, List, [], ◌∷◌, ◌++◌, ap₂, codes, if◌then◌else◌, map, refl}
use Rattle.std.proofs.lemmas.List.{length-map}
use Rattle.std.proofs.lemmas.Result.{on_ok_weaker}
use Rattle.deb_relation.proofs.JoinLemmas.{joined_map}
use Rattle.deb_relation.specs.Relationship.{told_if}

-- what holds where a last call succeeds
pub last_call : {T E P Q : Type 0} (r : Result T E) → OnOk r P → (P → Q) → OnOk r Q
last_call r held gives = on_ok_weaker r gives held

-- what a last call puts behind a text, where it succeeds
pub last_pushed : {T E : Type 0} (r : Result T E) (new old more total : List ℕ) → new ≡ (if is_ok r then old ++ more else old) → old ++ more ≡ total → OnOk r (new ≡ total)
last_pushed (Ok x) new old more total is same = is ∙ same
last_pushed (Err e) new old more total is same = tt

-- in one line, where there are some
pub told_map : {A B : Type 0} (lead : List ℕ) (text : B → List ℕ) (f : A → B) (xs : List A) → told_if lead text (map f xs) ≡ told_if lead (λ x. text (f x)) xs
unfolding told_if
told_map lead text f [] = refl
told_map lead text f (x ∷ xs) = ap₂ (λ (count : ℕ) (texts : List ℕ). if count == 0 then [] else (lead ++ texts)) (length-map (x ∷ xs) f) (joined_map text f (codes ", ") (x ∷ xs))
