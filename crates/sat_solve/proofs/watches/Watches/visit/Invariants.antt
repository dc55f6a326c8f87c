use Rattle.sat_solve.specs.SolverState.{GoesOn}
use Rattle.sat_solve.proofs.watches.Watches.visit.Given as goal

abbrev pub invariant-watches : goal.invariant-watches
invariant-watches l = GoesOn l.problem l.initial.solver l.solver l.conflict
