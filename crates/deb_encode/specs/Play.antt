-- Places in play, and the clauses that are added for them: those that are forced are in every set that is looked for, the candidates have a variable
-- each, and no further place is in any.
use Rattle.std.specs.Prelude.{◌≡◌, ℕ, ◌↔◌, ◌++◌, true, List, All, ◌<◌, ◌||◌, length, Some, slice_get}
use Rattle.number_sets.specs.Sets.{NumberSet, members_of, positions_of}
use Rattle.sat_solve.specs.Clauses.{Clause, Clauses, clause_holds}
use Rattle.deb_index.specs.declared.constraint.Constraint.{Constraint}
use Rattle.deb_index.specs.Packages.{IndexView}
use Rattle.deb_index.specs.Constraints.{Holds}

-- all clauses hold in the set
abbrev pub AllHold : List Clause → NumberSet → Type 0
AllHold clauses set = All (λ clause. clause_holds set clause.literals ≡ true) clauses

-- the clauses of one group hold
abbrev pub GroupHolds : List Clause → ℕ → NumberSet → Type 0
GroupHolds clauses group vars = All (λ clause. clause.group ≡ group → clause_holds vars clause.literals ≡ true) clauses

-- clauses of one group came to a formula, which hold in just the sets with a property
pub record Adds (group : ℕ) (Means : NumberSet → Type 0) (before after : Clauses) : Type 0 where
  pub vars : after.vars ≡ before.vars
  pub groups : after.groups ≡ before.groups
  pub more : List Clause
  pub appended : after.clauses ≡ before.clauses ++ more
  pub in_group : All (λ clause. clause.group ≡ group) more
  pub says : (set : NumberSet) → (AllHold more set ↔ Means set)

-- the forced places and the candidates
abbrev pub places_in_play : NumberSet → List ℕ → NumberSet
places_in_play forced candidates q = forced q || members_of candidates q

-- the set of places that a set of variables stands for: the forced ones, and the candidates whose variables it has
abbrev pub placed : List ℕ → List ℕ → NumberSet → NumberSet
placed forced candidates vars q = members_of forced q || positions_of candidates vars q

-- clauses of one group came to a formula, which hold in just the sets of variables whose places have a property
abbrev pub AddsPlaces : ℕ → List ℕ → List ℕ → (NumberSet → Type 0) → Clauses → Clauses → Type 0
AddsPlaces group forced candidates Means before after = Adds group (λ vars. Means (placed forced candidates vars)) before after

-- the clauses of each group say of the places of each set of variables what the constraint with the group's number says
pub record TellsPlaces (index : IndexView) (forced candidates : List ℕ) (constraints : List Constraint) (clauses : List Clause) : Type 0 where
  pub in_groups : All (λ clause. clause.group < length constraints) clauses
  pub says : (vars : NumberSet) (group : ℕ) (constraint : Constraint) → slice_get constraints group ≡ Some constraint
      → (GroupHolds clauses group vars ↔ Holds index (placed forced candidates vars) constraint)
