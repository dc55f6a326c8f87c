use Rattle.std.proofs.Common.{ℕ, ◌<◌, get_or}
use Rattle.number_sets.specs.Sets.{members_of}
use Rattle.deb_health.specs.Causes.{either}
use Rattle.deb_groundwork.specs.BaseSets.{HasRoom}
use Rattle.deb_groundwork.specs.Parts.{MeetsAskedOf}
use Rattle.deb_groundwork.proofs.witness.place_amiss.Given as goal

abbrev pub invariant-loop-place : goal.invariant-loop-place
invariant-loop-place l = record {
  room : (k : ℕ) → k < l.place-index → HasRoom l.part.index.now l.base (get_or l.place-items k 0);
  meets : (k : ℕ) → k < l.place-index → MeetsAskedOf l.part (either (members_of l.base.members) (members_of l.more)) (get_or l.place-items k 0);
}
