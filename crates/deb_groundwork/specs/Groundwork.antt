-- What is known of an index before any of its packages is asked for, and the places that no healthy set has.
use Rattle.std.specs.Prelude.{◌≡◌, ℕ, ◌<◌, true, List, Some, length, slice_get}
use Rattle.std.specs.List.{list_any}
use Rattle.deb_index.specs.Packages.{IndexView, needs_at, need_at, essential_names, name_at, places_of}
use Rattle.deb_index.specs.Meets.{group_satisfiers}
use Rattle.number_sets.specs.Sets.{NumberSet, members_of, IsWithin, Grows}
use Rattle.deb_health.specs.Health.{IsHealthy, IsHopeless}

-- places came to the list; each healthy set that has what it had has all that it has now
pub record KeepsForced (index : IndexView) (before after : List ℕ) : Type 0 where
  pub grows : Grows (length index.packages) before after
  pub forced : (set : NumberSet) → IsHealthy index set → IsWithin (members_of before) set → IsWithin (members_of after) set

-- each need of the place is answered by a place that is in: by the rows of the needs, so that this has one proof at most and a struct may keep it
abbrev pub HasAnswers : IndexView → NumberSet → ℕ → Type 0
HasAnswers index forced place = (j : ℕ) → j < length (needs_at index place) → list_any forced (group_satisfiers index (need_at index place j)) ≡ true

-- the row has the places of the essential name at a position of the list of constraints
pub record IsEssentialRow (index : IndexView) (position : ℕ) (row : List ℕ) : Type 0 where
  pub name : ℕ
  pub at : slice_get (essential_names index) position ≡ Some name
  pub is : row ≡ places_of index (name_at index name)

-- no healthy set has any of these places
abbrev pub AreHopeless : IndexView → NumberSet → Type 0
AreHopeless index places = (place : ℕ) → places place ≡ true → IsHopeless index place
