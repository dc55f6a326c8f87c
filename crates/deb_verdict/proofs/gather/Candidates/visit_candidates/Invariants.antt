use Rattle.std.proofs.Common.{◌-◌, ◌≤◌, length, []}
use Rattle.number_sets.specs.Sets.{members_of}
use Rattle.deb_verdict.specs.Closure.{Gathers, Reaches}
use Rattle.deb_verdict.proofs.GatherLemmas.{IsAmong}
use Rattle.deb_verdict.proofs.gather.Candidates.visit_candidates.Given as goal

abbrev pub invariant-loop-visited : goal.invariant-loop-visited
invariant-loop-visited l = record {
  reached : l.visited ≤ length l.self.places;
  gathers : Gathers l.ground.index.now (members_of l.ground.forced.now) (IsAmong l.self.places l.visited) l.initial.self l.self;
  reaches : Reaches l.ground.index.now (members_of []) l.initial.self.places l.self.places;
}

abbrev pub decreases-loop-visited : goal.decreases-loop-visited
decreases-loop-visited l = length l.ground.index.now.packages - l.visited
