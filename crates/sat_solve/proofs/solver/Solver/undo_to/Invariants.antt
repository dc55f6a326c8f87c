use Rattle.std.proofs.Common.{◌≡◌, length}
use Rattle.sat_solve.specs.Trail.{steps_of, IsTrail}
use Rattle.sat_solve.specs.SolverState.{IsSolver}
use Rattle.sat_solve.specs.declared.clause.Problem.{Problem}
use Rattle.sat_solve.proofs.BackjumpLemmas.{UndoneTo}
use Rattle.sat_solve.proofs.solver.Solver.undo_to.Given as goal

abbrev pub invariant-steps : goal.invariant-steps
invariant-steps l = record {
  linked : IsTrail l.self.trail;
  used : l.self.used ≡ l.initial.self.used;
  vars : l.self.trail.vars ≡ l.initial.self.trail.vars;
  keeps : (problem : Problem) → IsSolver problem l.initial.self → IsSolver problem l.self;
  undone : UndoneTo l.initial.self.trail.vars l.place l.initial.self.trail.steps.items (steps_of l.self.trail) (length l.self.trail.steps.items);
}

abbrev pub decreases-steps : goal.decreases-steps
decreases-steps l = length l.self.trail.steps.items
