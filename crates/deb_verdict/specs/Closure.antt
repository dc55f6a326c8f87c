-- The closure of a package, the constraints that matter to it, and what the forced places of a healthy set leave open.
use Rattle.std.specs.Prelude.{◌≡◌, ℕ, ◌&&◌, Bool, true, false, Option, Some, None, Contains, slice_get, ◌⊎◌, ◌<◌, List, All, length}
use Rattle.std.specs.List.{list_any}
use Rattle.deb_index.specs.declared.constraint.Constraint.{Constraint}
use Rattle.deb_index.specs.declared.constraint.Constraint.TheVariants.{Essential, Need, Apart, Only}
use Rattle.deb_index.specs.Packages.{IndexView, name_at, places_of, essential_names, needs_at}
use Rattle.deb_index.specs.Constraints.{constraints_of, has_name, answers, IsOfIndex}
use Rattle.number_sets.specs.Sets.{NumberSet, IsWithin, members_of, Grows}
use Rattle.std.specs.List.Sorted.{IsStrictlyIncreasing}
use Rattle.deb_encode.specs.Play.{places_in_play}
use Rattle.deb_verdict.specs.declared.gather.UnmetNeed.{UnmetNeed}
use Rattle.deb_verdict.specs.declared.gather.Candidates.{Candidates}

-- the members of the one that the other has too
abbrev pub cut : NumberSet → NumberSet → NumberSet
cut a b number = a number && b number

-- it contains p, all packages of essential names, and with each member every package that meets an alternative of one of its groups as a need
pub record IsClosed (index : IndexView) (p : ℕ) (set : NumberSet) : Type 0 where
  pub start : set p ≡ true
  pub essential : (number q : ℕ) → Contains (essential_names index) number → has_name index q number ≡ true → set q ≡ true
  pub answered : (member j q : ℕ) → set member ≡ true → answers index member j q ≡ true → set q ≡ true

-- the least such set
abbrev pub IsClosure : IndexView → ℕ → NumberSet → Type 0
IsClosure index p set = IsClosed index p set × ((other : NumberSet) → IsClosed index p other → IsWithin set other)

-- the constraints that speak of members: of all essential names, of the members, and of their names
abbrev pub is_kept : IndexView → NumberSet → Constraint → Bool
is_kept index members (Essential number) = true
is_kept index members (Need p j) = members p
is_kept index members (Apart p j) = members p
is_kept index members (Only number) = list_any members (places_of index (name_at index number))

abbrev pub is_kept_there : IndexView → NumberSet → Option Constraint → Bool
is_kept_there index members (Some constraint) = is_kept index members constraint
is_kept_there index members None = false

-- the positions of those constraints
abbrev pub kept : IndexView → NumberSet → NumberSet
kept index members k = is_kept_there index members (slice_get (constraints_of index) k)

-- each essential name has a forced place, or else all of its places are in
abbrev pub HasNames : IndexView → NumberSet → NumberSet → Type 0
HasNames index forced within =
    (name : ℕ) → Contains (essential_names index) name
    → ((q : ℕ) × (forced q ≡ true) × (has_name index q name ≡ true)) ⊎ IsWithin (λ q. has_name index q name) within

-- a forced place answers the need, or else all that may answer it are candidates, and it is listed
abbrev pub IsTold : IndexView → NumberSet → Candidates → ℕ → ℕ → Type 0
IsTold index forced candidates place j =
    ((q : ℕ) × (forced q ≡ true) × (answers index place j q ≡ true))
    ⊎ (IsWithin (answers index place j) (members_of candidates.places) × Contains candidates.unmet.items (record { place = place; number = j }))

-- candidates and needs of the index came, so that each need that is asked for is told
pub record Gathers (index : IndexView) (forced : NumberSet) (Asked : ℕ → ℕ → Type 0) (before after : Candidates) : Type 0 where
  pub grows : Grows (length index.packages) before.places after.places
  pub keeps : (need : UnmetNeed) → Contains before.unmet.items need → Contains after.unmet.items need
  pub needs : All (λ need. IsOfIndex index (Need need.place need.number)) before.unmet.items
      → All (λ need. IsOfIndex index (Need need.place need.number)) after.unmet.items
  pub told : (place j : ℕ) → j < length (needs_at index place) → Asked place j → IsTold index forced after place j

-- the candidates, rising, are enough beside the forced places, and all needs that these leave open are listed
pub record IsGathered (index : IndexView) (forced : NumberSet) (candidates : Candidates) : Type 0 where
  pub rising : IsStrictlyIncreasing candidates.places
  pub within : All (λ q. q < length index.packages) candidates.places
  pub names : HasNames index forced (members_of candidates.places)
  pub needs : All (λ need. IsOfIndex index (Need need.place need.number)) candidates.unmet.items
  pub told : (place j : ℕ) → j < length (needs_at index place) → places_in_play forced candidates.places place ≡ true → IsTold index forced candidates place j

-- each closed set that has these places, and what was there, has what came too
abbrev pub Reaches : IndexView → NumberSet → List ℕ → List ℕ → Type 0
Reaches index visited before after = (p : ℕ) (other : NumberSet) → IsClosed index p other → IsWithin visited other → IsWithin (members_of before) other → IsWithin (members_of after) other
