-- When an entry or a group has a row, and which.
use Rattle.std.proofs.Common.{◌≡◌, ◌<◌, ◌≤◌, ◌∙◌, ℕ, Bool, true, false, cond, get_or, List, [], ◌∷◌, length, Option, Some, None, refl, sym, ap, arith}
use Rattle.std.specs.Prelude.{IfSome}
use Rattle.std.specs.Option.{is_some, option_map}
use Rattle.std.proofs.lemmas.Bool.{le-leb, lt-leb}
use Rattle.deb_relation.specs.Relationship.{AtomText}
use Rattle.deb_index.specs.declared.meets.Role.TheVariants.{Entry}
use Rattle.deb_index.specs.Packages.{IndexView, places_where}
use Rattle.deb_index.specs.Meets.{meets, satisfiers}
use Rattle.deb_index.specs.Rows.{IsFound, row_limit, row_of, satisfiers_as}
use Rattle.deb_index.proofs.FoundLemmas.{or-none}

none-some : (x : List ℕ) → None ≡ Some x → ⊥
none-some x e = cc

some-same : (x y : List ℕ) → Some x ≡ Some y → x ≡ y
some-same x y e = cc

-- what a row that is looked up says
module _ {R : Type 0} (now : R → List ℕ) (row : List ℕ) where
  pub row-is : (few : Bool) (o : Option R) → option_map now o ≡ cond few (Some row) None → IfSome o (λ r. now r ≡ row)
  row-is few None e = tt
  row-is true (Some r) e = some-same (now r) row e
  row-is false (Some r) e = absurd (none-some (now r) (sym e))

  pub row-there : (few : Bool) (o : Option R) → option_map now o ≡ cond few (Some row) None → is_some o ≡ few
  row-there true None e = absurd (none-some row e)
  row-there false None e = refl
  row-there true (Some r) e = refl
  row-there false (Some r) e = absurd (none-some (now r) (sym e))

-- the row of what was found, up to the limit of a row
module _ (places found : List ℕ) (is : IsFound row_limit places found) where
  pub row-few : length found ≤ row_limit → row_of places ≡ Some found
  row-few few =
      let same : places ≡ found = sym (is.all few) in
      ap row_of same ∙ ap (λ b. cond b (Some found) None) (le-leb (length found) row_limit few)

  pub row-many : row_limit < length found → row_of places ≡ None
  row-many many = ap (λ b. cond b (Some places) None) (lt-leb (length places) row_limit (is.more many))

-- an entry asks for one atom
pub alone : (index : IndexView) (atom : AtomText) → satisfiers_as Entry index (atom ∷ []) ≡ satisfiers index atom
alone index atom = λ i. places_where (λ q. or-none (meets index.arch q atom) i) index.packages

-- a list of one thing
pub only-one : {A : Type 0} (xs : List A) (x : A) → length xs ≡ 1 → x ≡ get_or xs 0 x → xs ≡ x ∷ []
only-one [] x one is = absurd (omega (arith, one))
only-one (y ∷ []) x one is = ap (λ z. z ∷ []) (sym is)
only-one (y ∷ z ∷ more) x one is = absurd (omega (arith, one))
