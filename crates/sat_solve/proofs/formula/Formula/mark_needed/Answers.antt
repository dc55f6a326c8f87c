use Rattle.std.proofs.Common.{length, ap, ◌∙◌}
use Rattle.sat_solve.proofs.formula.Formula.mark_needed.Goals as goal

pub returns-clause-sized : goal.returns-clause-sized
returns-clause-sized c = ap length c.deref.ensures.value ∙ (rw (c.problem.ensures.asked.0, c.requires.keep) at c.in_ok-walk.ensures.sized)

pub returns-clause-needed : goal.returns-clause-needed
returns-clause-needed c = rw (c.deref.ensures.value) (rw (c.problem.ensures.vars, c.problem.ensures.clauses, c.problem.ensures.asked.0, c.problem.ensures.asked.1) at c.in_ok-walk.ensures.needed)
