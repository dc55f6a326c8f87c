use Rattle.std.proofs.Common.{None}
use Rattle.sat_solve.specs.SolverState.{GoesOn}
use Rattle.sat_solve.proofs.watches.Watches.propagate.Given as goal

abbrev pub invariant-steps : goal.invariant-steps
invariant-steps l = GoesOn l.problem l.initial.solver l.solver None
