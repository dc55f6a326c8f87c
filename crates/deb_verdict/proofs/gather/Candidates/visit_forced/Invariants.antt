use Rattle.number_sets.specs.Sets.{members_of}
use Rattle.deb_verdict.specs.Closure.{Gathers, Reaches}
use Rattle.deb_verdict.proofs.GatherLemmas.{IsAmong}
use Rattle.deb_verdict.proofs.gather.Candidates.visit_forced.Given as goal

abbrev pub invariant-loop-place : goal.invariant-loop-place
invariant-loop-place l = record {
  gathers : Gathers l.ground.index.now (members_of l.ground.forced.now) (IsAmong l.place-items l.place-index) l.initial.self l.self;
  reaches : Reaches l.ground.index.now (members_of l.ground.forced.now) l.initial.self.places l.self.places;
}
