use Rattle.std.proofs.Common.{◌≡◌, All, refl, sym, subst}
use Rattle.std.proofs.lemmas.List.Elements.{All-nil, All-push}
use Rattle.sat_solve.specs.Reasons.{IsLearnt}
use Rattle.sat_solve.specs.SolverState.{IsSolver}
use Rattle.sat_solve.proofs.solver.Solver.learn.Goals as goal
use Rattle.sat_solve.proofs.solver.Solver.learn.Goals.{then-is_full, else-is_full}

pub returns-clause-keeps : goal.returns-clause-keeps
returns-clause-keeps c = λ is learnt.
    let kept : IsSolver c.args.problem.now c.if-is_full.self = elim c.if-is_full.branch [
      | then-is_full w ↦ rw w.self-is (record {
        linked = is.linked;
        vars = is.vars;
        sound = is.sound;
        reasoned = is.reasoned;
        parts = is.parts;
        below = is.below;
        used = is.used;
        learnt = subst (All (IsLearnt c.args.problem.now c.args.self.now.used.items)) (sym w.clear.ensures.items) (All-nil (IsLearnt c.args.problem.now c.args.self.now.used.items));
      })
      | else-is_full w ↦ rw w.self-is is
    ] in
    let used : c.if-is_full.self.used ≡ c.args.self.now.used = elim c.if-is_full.branch [
      | then-is_full w ↦ rw w.self-is refl
      | else-is_full w ↦ rw w.self-is refl
    ] in
    record {
      linked = kept.linked;
      vars = kept.vars;
      sound = kept.sound;
      reasoned = kept.reasoned;
      parts = kept.parts;
      below = kept.below;
      used = kept.used;
      learnt = subst (All (IsLearnt c.args.problem.now c.if-is_full.self.used.items)) (sym c.in_ok-push.ensures.items)
          (All-push (IsLearnt c.args.problem.now c.if-is_full.self.used.items) c.if-is_full.self.learnt.items c.args.clause kept.learnt (subst (λ used. IsLearnt c.args.problem.now used.items c.args.clause) (sym used) learnt));
    }
