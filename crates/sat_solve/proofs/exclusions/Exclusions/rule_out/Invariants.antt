use Rattle.std.proofs.Common.{None}
use Rattle.sat_solve.specs.SolverState.{GoesOn}
use Rattle.sat_solve.proofs.exclusions.Exclusions.rule_out.Given as goal

abbrev pub invariant-links : goal.invariant-links
invariant-links l = GoesOn l.problem l.initial.solver l.solver None

abbrev pub invariant-loop-other : goal.invariant-loop-other
invariant-loop-other l = GoesOn l.problem l.fn.solver l.solver None
