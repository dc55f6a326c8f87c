-- Texts with numbers, in the order of their coming, and the broken packages and cores that have the number of a cause.
use Rattle.std.specs.Prelude.{◌≡◌, ℕ, List, [], ◌∷◌, Vec, map, if◌then◌else◌, ◌++◌}
use Rattle.std.specs.List.{list_any}
use Rattle.std.specs.Str.{bytes_eq}
use Rattle.indexmap.specs.IndexSet.{IndexSet}
use Rattle.deb_index.specs.Packages.{first_of_each}
use Rattle.deb_index.specs.declared.constraint.Constraint.{Constraint}
use Rattle.deb_causes.specs.declared.gathered.NumberedCore.{NumberedCore}
use Rattle.deb_causes.specs.declared.gathered.NumberedPackage.{NumberedPackage}

-- the texts, by their numbers
abbrev pub texts_of : {A S : Type 0} → IndexSet (Vec ℕ A) S → List (List ℕ)
texts_of texts = map (λ text. text.items) texts.keys

-- the texts with one more, where it is not among them
abbrev pub with_text : List (List ℕ) → List ℕ → List (List ℕ)
with_text texts text = if list_any (bytes_eq text) texts then texts else (texts ++ text ∷ [])

-- the texts come first among others
abbrev pub IsFront : List (List ℕ) → List (List ℕ) → Type 0
IsFront front texts = (rest : List (List ℕ)) × (texts ≡ front ++ rest)

-- each of the texts stands there once
abbrev pub StandOnce : List (List ℕ) → Type 0
StandOnce texts = (before : List (List ℕ)) × (texts ≡ first_of_each bytes_eq before)

-- the texts grow by these, each of which is added where it is new
pub record Grows (old new added : List (List ℕ)) : Type 0 where
  pub front : (texts : List (List ℕ)) → IsFront new texts → IsFront old texts
  pub firsts : (before : List (List ℕ)) → old ≡ first_of_each bytes_eq before → new ≡ first_of_each bytes_eq (before ++ added)

abbrev pub core_view : NumberedCore → ℕ × List Constraint
core_view core = (core.number, core.core.now)

abbrev pub package_view : NumberedPackage → ℕ × List (ℕ × List Constraint)
package_view one = (one.place, map core_view one.cores.items)

-- a package without the numbers
abbrev pub unnumbered : ℕ × List (ℕ × List Constraint) → ℕ × List (List Constraint)
unnumbered one = (one.0, map (λ core. core.1) one.1)
