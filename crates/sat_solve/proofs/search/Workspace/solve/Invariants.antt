use Rattle.std.proofs.Common.{◌-◌, IfSome}
use Rattle.sat_solve.specs.Trail.{power_of_three}
use Rattle.sat_solve.specs.SolverState.{IsSolver, IsConflict, height}
use Rattle.sat_solve.proofs.search.Workspace.solve.Given as goal

abbrev pub invariant-rounds : goal.invariant-rounds
invariant-rounds l = record {
  solver : IsSolver l.problem l.self.solver;
  found : IfSome l.found (IsConflict l.problem l.self.solver);
}

abbrev pub decreases-rounds : goal.decreases-rounds
decreases-rounds l = power_of_three l.problem.vars - height l.problem l.self.solver
