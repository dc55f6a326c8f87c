use Rattle.std.proofs.Common.{None}
use Rattle.sat_solve.specs.SolverState.{GoesOn}
use Rattle.sat_solve.proofs.watches.Watches.load.Given as goal

abbrev pub invariant-loop-clause : goal.invariant-loop-clause
invariant-loop-clause l = GoesOn l.problem l.initial.solver l.solver None
