use Rattle.sat_solve.proofs.SolverLemmas.{goes_on_forced, goes_on_conflict}
use Rattle.sat_solve.proofs.solver.Solver.force.Goals as goal

pub returns-in-Some-None : goal.returns-in-Some-None
returns-in-Some-None c = goes_on_conflict c.args.problem.now c.args.self.now c.args.reason c.args.clause.now c.requires.solver c.requires.gives (rw c.in-Some-None.field-0-is at c.in-Some-None.ensures)

pub returns-in_ok-push-in-Some-Some : goal.returns-in_ok-push-in-Some-Some
returns-in_ok-push-in-Some-Some c =
    goes_on_forced c.args.problem.now c.args.self.now c.args.reason c.args.clause.now c.requires.solver c.requires.gives
    c.push.new.self c.in-Some-Some.literal (rw c.in-Some-Some.field-0-is at c.in-Some-Some.ensures) c.in_ok-push-in-Some-Some.ensures.linked c.in_ok-push-in-Some-Some.ensures.vars c.in_ok-push-in-Some-Some.ensures.pushed
