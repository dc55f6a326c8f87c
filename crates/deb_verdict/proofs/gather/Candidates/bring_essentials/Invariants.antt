use Rattle.std.proofs.Common.{◌≡◌, ◌<◌, ℕ, length, get_or, []}
use Rattle.number_sets.specs.Sets.{members_of, Grows}
use Rattle.deb_verdict.specs.Closure.{Reaches}
use Rattle.deb_verdict.proofs.GatherLemmas.{IsNamed}
use Rattle.deb_verdict.proofs.gather.Candidates.bring_essentials.Given as goal

abbrev pub invariant-loop-name : goal.invariant-loop-name
invariant-loop-name l = record {
  grows : Grows (length l.index.packages) l.initial.self.places l.self.places;
  names : (k : ℕ) → k < l.name-index → IsNamed l.index (members_of l.forced) (get_or l.name-items k 0) (members_of l.self.places);
  reaches : Reaches l.index (members_of []) l.initial.self.places l.self.places;
  unmet : l.self.unmet ≡ l.initial.self.unmet;
}
