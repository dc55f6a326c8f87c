use Rattle.std.proofs.Common.{◌≡◌, ◌++◌, ◌∙◌, ap}
use Rattle.sat_solve.proofs.formula.Formula.solve_marked.Goals as goal

pub returns : goal.returns
returns c =
    let copied : c.extend_from_slice.new.self.items ≡ c.solve.new.self.solver.used.items =
    c.in_ok-extend_from_slice.ensures.items ∙ (ap (λ front. front ++ c.deref.result.now) c.clear.ensures.items ∙ c.deref.ensures.value) in
    rw copied (rw (c.problem.ensures.vars, c.problem.ensures.clauses, c.problem.ensures.asked.0, c.problem.ensures.asked.1) at c.in_ok-answer.ensures)
