-- Parts of the constraints of an index: what a set meets of one, what a constraint gives, and what refutes it.
use Rattle.std.specs.Prelude.{◌≡◌, ℕ, ◌<◌, true, List, [], Some, length, slice_get}
use Rattle.deb_index.specs.declared.constraint.Constraint.{Constraint}
use Rattle.deb_index.specs.declared.constraint.Constraint.TheVariants.{Need, Apart, Only}
use Rattle.deb_index.specs.Packages.{IndexView, package_at, places_of, names, name_at, needs_at, aparts_at}
use Rattle.deb_index.specs.Constraints.{Holds, constraints_of}
use Rattle.number_sets.specs.Sets.{NumberSet, members_of, IsWithin}
use Rattle.core_extract.specs.Reduction.{left, IsRefutation}
use Rattle.deb_health.specs.Causes.{without}
use Rattle.deb_health.specs.Health.{AdmitsNone}
use Rattle.deb_groundwork.specs.declared.part.Part.{Part}
use Rattle.std.specs.List.{list_any}
use Rattle.std.specs.Option.{option_map_or}

-- where the set has a place, it has no earlier place of the same name
abbrev pub HasNoEarlier : IndexView → NumberSet → ℕ → Type 0
HasNoEarlier index set place = set place ≡ true → (q : ℕ) → q < place → members_of (places_of index (package_at index place).name) q ≡ true → set q ≡ true → ⊥

-- the positions of constraints that are taken out
abbrev pub taken_out : Part → NumberSet
taken_out part = members_of (option_map_or (λ out. out.now) part.out [])

-- the positions of a part's constraints
abbrev pub positions_in : Part → NumberSet
positions_in part = without (taken_out part) (left (members_of part.kept.now) part.rest)

-- no set with p meets the part, as constraints at these positions of it show
abbrev pub IsRefutedBy : List ℕ → Part → ℕ → Type 0
IsRefutedBy used part p = IsRefutation (AdmitsNone part.index.now p) (positions_in part) (members_of used)

-- the part has the constraint
abbrev pub IsAsked : Part → Constraint → Type 0
IsAsked part constraint = (k : ℕ) × (positions_in part k ≡ true) × (slice_get (constraints_of part.index.now) k ≡ Some constraint)

-- the set meets the constraint, where the part has it
abbrev pub MeetsAsked : Part → NumberSet → Constraint → Type 0
MeetsAsked part set constraint = IsAsked part constraint → Holds part.index.now set constraint

-- no earlier package of its name is in the set with the package at a place, where the part has it that one alone is
abbrev pub StandsOnce : Part → NumberSet → ℕ → Type 0
StandsOnce part set place =
    (number : ℕ) × (number < length (names part.index.now)) × (name_at part.index.now number ≡ (package_at part.index.now place).name)
    × (IsAsked part (Only number) → HasNoEarlier part.index.now set place)

-- the set meets what the part asks of the package at a place
pub record MeetsAskedOf (part : Part) (set : NumberSet) (place : ℕ) : Type 0 where
  pub needs : (j : ℕ) → j < length (needs_at part.index.now place) → MeetsAsked part set (Need place j)
  pub aparts : (j : ℕ) → j < length (aparts_at part.index.now place) → MeetsAsked part set (Apart place j)
  pub once : StandsOnce part set place

-- each set that has what is in and meets the constraint at a position has one of the row
pub record Gives (index : IndexView) (forced : NumberSet) (position : ℕ) (row : List ℕ) : Type 0 where
  pub constraint : Constraint
  pub stands : slice_get (constraints_of index) position ≡ Some constraint
  pub gives : (set : NumberSet) → IsWithin forced set → Holds index set constraint → list_any set row ≡ true
