use Rattle.sat_solve.proofs.MarkLemmas.{by_kept}
use Rattle.sat_solve.proofs.formula.Formula.solve_in.Goals as goal

pub returns : goal.returns
returns c = by_kept _ _ _ _ _ _ (rw (c.problem.ensures.vars, c.problem.ensures.clauses, c.problem.ensures.asked.0, c.problem.ensures.asked.1) at c.in_ok-solve.ensures)
