-- What a learnt clause says of the trail, and where it sends the search back to.
use Rattle.std.specs.Prelude.{◌≡◌, ℕ, ◌<◌, ◌≤◌, Bool, true, false, not, Option, Some, None, List, [], ◌∷◌, ◌⊎◌, length, take, drop, reverse, slice_index_or}
use Rattle.sat_solve.specs.Trail.{value_in, is_decided}
use Rattle.sat_solve.specs.Reasons.{is_seen}
use Rattle.sat_solve.specs.declared.clause.Lit.{Lit}
use Rattle.sat_solve.specs.declared.trail.Step.{Step}

-- the literal that fails by a step
abbrev pub denied : Step → Lit
denied step = record { var = step.var; positive = not step.value }

-- the step stands at this place of a trail, whose newest step stands last
abbrev pub IsAt : List Step → ℕ → Step → Type 0
IsAt trail place step = (place < length trail) × (slice_index_or trail place step ≡ step)

-- the literals fail by these steps, in the order of the steps
abbrev pub AreDenied : List Lit → List Step → Type 0
AreDenied [] steps = Unit {0}
AreDenied (literal ∷ rest) [] = ⊥
AreDenied (literal ∷ rest) (step ∷ older) = ((literal ≡ denied step) × AreDenied rest older) ⊎ AreDenied (literal ∷ rest) older

-- a decision stands at this place. Without it and what is newer the first literal is free, and the others, found from `left` on, fail
pub record IsCut (trail : List Step) (left place : ℕ) (first : Lit) (rest : List Lit) : Type 0 where
  pub decision : Step
  pub at : IsAt trail place decision
  pub decided : is_decided decision ≡ true
  pub before : left ≤ place
  pub free : value_in (reverse (take place trail)) first.var ≡ None
  pub fail : AreDenied rest (reverse (drop left (take place trail)))

-- the same of a clause, if it has literals
abbrev pub IsJump : List Step → ℕ → ℕ → List Lit → Type 0
IsJump trail left place [] = Unit {0}
IsJump trail left place (first ∷ rest) = IsCut trail left place first rest

-- the level of the step at a place begins at a decision here, and no older step of it is seen
pub record IsLevelStart (trail : List Step) (marks : List Bool) (place start : ℕ) : Type 0 where
  pub decision : Step
  pub at : IsAt trail start decision
  pub decided : is_decided decision ≡ true
  pub before : start ≤ place
  pub alone : (other : ℕ) (step : Step) → start ≤ other → other < place → IsAt trail other step → is_seen marks step.var ≡ false

-- where to look on and to jump, if the clause takes the literal of the step at a place: the first is the only one of its level. A decision is taken
abbrev pub IsTaken : List Step → List Bool → List Lit → ℕ → ℕ → Option (ℕ × ℕ) → Type 0
IsTaken trail marks clause target place None = (step : Step) → IsAt trail place step → is_decided step ≡ false
IsTaken trail marks [] target place (Some on) = IsLevelStart trail marks place on.0 × (on.1 ≡ on.0)
IsTaken trail marks (first ∷ rest) target place (Some on) = (on.0 ≡ place) × (on.1 ≡ target)
