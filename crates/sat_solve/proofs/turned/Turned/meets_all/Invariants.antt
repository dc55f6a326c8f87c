use Rattle.std.proofs.Common.{ℕ, ◌<◌}
use Rattle.sat_solve.specs.Rotation.{IsClearPart, MeetsBut, turned}
use Rattle.sat_solve.proofs.turned.Turned.meets_all.Given as goal

abbrev pub invariant-loop-number : goal.invariant-loop-number
invariant-loop-number l = record {
  met : (k : ℕ) → k < l.number → MeetsBut l.problem (turned l.self.inside.now l.self.var) l.but k;
  clear : IsClearPart (turned l.self.inside.now l.self.var) l.problem.literals.now l.clear;
}
