use Rattle.std.proofs.Common.{ℕ, ◌<◌, get_or}
use Rattle.number_sets.specs.Sets.{members_of}
use Rattle.deb_groundwork.specs.BaseSets.{HasHits}
use Rattle.deb_groundwork.proofs.BaseLemmas.{StandsIn}
use Rattle.deb_groundwork.proofs.base_set.BaseSet.is_base.Given as goal

abbrev pub invariant-loop-place : goal.invariant-loop-place
invariant-loop-place l = record {
  stand : (k : ℕ) → k < l.place-index → StandsIn l.index (members_of l.members) (get_or l.place-items k 0);
  hit : (k : ℕ) → k < l.place-index → HasHits l.index (members_of l.hit) (get_or l.place-items k 0);
}
