use Rattle.std.proofs.Common.{◌≡◌, ◌<◌, eqb}
use Rattle.number_sets.specs.Sets.{members_of}
use Rattle.deb_verdict.specs.Closure.{Gathers, Reaches}
use Rattle.deb_verdict.proofs.gather.Candidates.visit.Given as goal

abbrev pub invariant-loop-number : goal.invariant-loop-number
invariant-loop-number l = record {
  gathers : Gathers l.ground.index.now (members_of l.ground.forced.now) (λ q j. (l.place ≡ q) × (j < l.number)) l.initial.self l.self;
  reaches : Reaches l.ground.index.now (eqb l.place) l.initial.self.places l.self.places;
}
