-- Sets that meet all constraints.
use Rattle.std.proofs.Common.{◌≡◌, ℕ, ◌<◌, true, length}
use Rattle.std.proofs.lemmas.Option.{slice_get-get_or}
use Rattle.deb_index.specs.Packages.{IndexView}
use Rattle.deb_index.specs.Constraints.{constraints_of}
use Rattle.number_sets.specs.Sets.{NumberSet}
use Rattle.std.specs.Prelude.{slice_index_or}
use Rattle.deb_health.specs.Health.{IsHealthy, MeetsAt}

pub healthy_from_meets : (index : IndexView) (set all : NumberSet) → ((k : ℕ) → k < length (constraints_of index) → all k ≡ true) → MeetsAt index set all → IsHealthy index set
healthy_from_meets index set all whole meets k d below =
    meets k (slice_index_or (constraints_of index) k d) (whole k below) (slice_get-get_or (constraints_of index) k d below)
