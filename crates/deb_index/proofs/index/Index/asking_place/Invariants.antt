use Rattle.std.proofs.Common.{◌≤◌, ◌<◌, ◌-◌, length}
use Rattle.deb_index.specs.Links.{first_position}
use Rattle.deb_index.proofs.index.Index.asking_place.Given as goal

abbrev pub invariant-halve : goal.invariant-halve
invariant-halve l = (l.low < l.high) × (l.high ≤ length l.self.packages) × (first_position l.self l.low ≤ l.position) × (l.position < first_position l.self l.high)

abbrev pub decreases-halve : goal.decreases-halve
decreases-halve l = l.high - l.low
