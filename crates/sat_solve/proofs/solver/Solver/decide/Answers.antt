use Rattle.std.proofs.Common.{◌<◌, sym, subst, arith}
use Rattle.std.proofs.lemmas.Bool.{false≢true}
use Rattle.sat_solve.specs.Trail.{rank, steps_of}
use Rattle.sat_solve.specs.SolverState.{IsSolver}
use Rattle.sat_solve.specs.declared.solver.Solver.{Solver}
use Rattle.sat_solve.proofs.SolverLemmas.{decided_solver, decided_rises}
use Rattle.sat_solve.proofs.solver.Solver.decide.Goals as goal

pub returns-then-is_none : goal.returns-then-is_none
returns-then-is_none c =
    let higher : rank c.args.problem.now.vars (steps_of c.args.self.now.trail) < rank c.args.problem.now.vars (steps_of c.push.new.self) =
    subst (λ (solver : Solver). rank c.args.problem.now.vars (steps_of solver.trail) < rank c.args.problem.now.vars (steps_of c.push.new.self)) c.loop-var.invariant.same
    (decided_rises c.args.problem.now c.loop-var.self c.push.new.self c.loop-var.var c.in_ok-push.ensures.pushed) in
    record {
      solver = decided_solver c.args.problem.now c.loop-var.self c.push.new.self c.loop-var.var (subst (IsSolver c.args.problem.now) (sym c.loop-var.invariant.same) c.requires) c.loop-var.invariant.least
          c.in_ok-push.ensures.linked c.in_ok-push.ensures.vars c.in_ok-push.ensures.pushed;
      rises = omega arith;
      higher = λ _. higher;
      full = λ none. absurd (false≢true (sym none));
    }
