use Rattle.std.proofs.Common.{◌≡◌, ◌≢◌, ℕ, None, ◌<◌}
use Rattle.sat_solve.specs.Trail.{value_in, steps_of}
use Rattle.sat_solve.proofs.solver.Solver.decide.Given as goal

abbrev pub invariant-loop-var : goal.invariant-loop-var
invariant-loop-var l = record {
  same : l.self ≡ l.initial.self;
  least : (lower : ℕ) → lower < l.var → value_in (steps_of l.self.trail) lower ≢ None;
}
