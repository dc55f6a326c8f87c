use Rattle.std.proofs.Common.{ℕ, ◌<◌}
use Rattle.sat_solve.specs.Rotation.{IsListed}
use Rattle.sat_solve.proofs.occurrences.list_spans.Given as goal

abbrev pub invariant-loop-number : goal.invariant-loop-number
invariant-loop-number l = (k : ℕ) → k < l.number → IsListed l.problem l.lists.items k
