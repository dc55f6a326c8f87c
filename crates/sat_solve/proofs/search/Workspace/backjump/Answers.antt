use Rattle.std.proofs.Common.{◌≡◌, ◌<◌, true, false, IfOk, sym, subst, ◌∙◌}
use Rattle.std.proofs.lemmas.List.Elements.{same_from_all_zip}
use Rattle.number_sets.specs.Sets.{NumberSet}
use Rattle.sat_solve.specs.Trail.{rank, steps_of}
use Rattle.sat_solve.specs.Reasons.{IsMarkedSolution}
use Rattle.sat_solve.specs.SolverState.{height}
use Rattle.sat_solve.proofs.search.Workspace.backjump.Goals as goal

pub backjump-requires-clause-solver : goal.backjump-requires-clause-solver
backjump-requires-clause-solver c =
    let same : c.in_ok-clause.clause.items ≡ c.analyze.new.self.clause.items = same_from_all_zip _ _ _ c.in_ok-clause.ensures.cases.0 (λ x y is. is) in
    c.in_ok-is_alone.ensures.keeps c.in_ok-analyze.ensures.solver (rw same c.in_ok-analyze.ensures.learnt)

pub backjump-requires-clause-ranged : goal.backjump-requires-clause-ranged
backjump-requires-clause-ranged c = rw c.deref.ensures.value c.in_ok-analyze.ensures.learnt.0

pub backjump-requires-clause-implied : goal.backjump-requires-clause-implied
backjump-requires-clause-implied c = rw (c.deref.ensures.value, c.in_ok-is_alone.ensures.used) c.in_ok-analyze.ensures.learnt.1

pub returns-clause-turned : goal.returns-clause-turned
returns-clause-turned c =
    subst (λ trail. IfOk c.backjump.result (λ found. found ≡ true → rank c.args.problem.now.vars (steps_of trail) < height c.args.problem.now c.backjump.new.self))
    (c.in_ok-is_alone.ensures.trail ∙ c.in_ok-analyze.ensures.trail) c.backjump.ensures.turned

pub returns-clause-none : goal.returns-clause-none
returns-clause-none c =
    subst (λ used. IfOk c.backjump.result (λ found. found ≡ false → (set : NumberSet) → IsMarkedSolution c.args.problem.now used.items set → ⊥)) (sym c.backjump.ensures.used) c.backjump.ensures.none
