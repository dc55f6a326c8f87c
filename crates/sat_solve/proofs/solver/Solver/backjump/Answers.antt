use Rattle.std.proofs.Common.{rules, ◌≡◌, ◌<◌, ◌∷◌, None, All, length, sym, subst, arith}
use Rattle.sat_solve.specs.Trail.{value_in, rank, steps_of}
use Rattle.sat_solve.specs.Reasons.{Implied, IsReasonFor}
use Rattle.sat_solve.specs.Jumps.{AreDenied, IsJump}
use Rattle.sat_solve.specs.declared.clause.Lit.{Lit}
use Rattle.sat_solve.proofs.BackjumpLemmas.{none_holds, turned_higher}
use Rattle.sat_solve.proofs.SolverLemmas.{jumped_solver}
use Rattle.sat_solve.proofs.solver.Solver.backjump.Goals as goal

pub returns-in_default-clause-none : goal.returns-in_default-clause-none
returns-in_default-clause-none c =
    let none : length c.args.clause.now ≡ 0 = search rules in
    λ _ set holds. none_holds c.args.clause.now set none (c.requires.implied set holds)

pub push-requires : goal.push-requires
push-requires c =
    let head : c.args.clause.now ≡ c.in-Some.first.now ∷ c.in-Some._others.now = search rules in
    let cut = subst (IsJump c.args.self.now.trail.steps.items 0 c.args.place) head c.requires.jump in
    let undone = c.undo_to.ensures.undone cut.decision cut.at cut.decided in
    let ranged = subst (All (λ (literal : Lit). literal.var < c.args.problem.now.vars)) head c.requires.ranged 0 c.in-Some.first.now (omega arith) in
    record {
      linked = undone.linked;
      in_range = omega (arith, ranged, undone.vars, c.requires.solver.vars);
      free = subst (λ steps. value_in steps c.in-Some.first.now.var ≡ None) (sym undone.cut) cut.free;
    }

pub returns-clause-solver : goal.returns-clause-solver
returns-clause-solver c =
    let head : c.args.clause.now ≡ c.in-Some.first.now ∷ c.in-Some._others.now = search rules in
    let cut = subst (IsJump c.args.self.now.trail.steps.items 0 c.args.place) head c.requires.jump in
    let undone = c.undo_to.ensures.undone cut.decision cut.at cut.decided in
    let ranged = subst (All (λ (literal : Lit). literal.var < c.args.problem.now.vars)) head c.requires.ranged 0 c.in-Some.first.now (omega arith) in
    let for = subst (λ clause. IsReasonFor clause c.undo_to.new.self.arena.items c.reason_of.new.arena.items c.in_ok-reason.reason) head c.in_ok-reason.ensures in
    let follows = subst (λ used. Implied c.args.problem.now used.items (c.in-Some.first.now ∷ c.in-Some._others.now)) (sym c.undo_to.ensures.used) (subst (Implied c.args.problem.now c.args.self.now.used.items) head c.requires.implied) in
    jumped_solver c.args.problem.now c.undo_to.new.self c.reason_of.new.arena c.in-Some.first.now c.in-Some._others.now c.in_ok-reason.reason c.push.new.self
    (undone.keeps c.args.problem.now c.requires.solver) for follows ranged
    (subst (λ steps. value_in steps c.in-Some.first.now.var ≡ None) (sym undone.cut) cut.free)
    (subst (AreDenied c.in-Some._others.now) (sym undone.cut) cut.fail)
    c.in_ok-push.ensures.linked c.in_ok-push.ensures.vars c.in_ok-push.ensures.pushed

pub returns-clause-turned : goal.returns-clause-turned
returns-clause-turned c = λ _.
    let head : c.args.clause.now ≡ c.in-Some.first.now ∷ c.in-Some._others.now = search rules in
    let cut = subst (IsJump c.args.self.now.trail.steps.items 0 c.args.place) head c.requires.jump in
    let undone = c.undo_to.ensures.undone cut.decision cut.at cut.decided in
    subst (λ vars. rank vars (steps_of c.args.self.now.trail) < rank vars (steps_of c.push.new.self)) c.requires.solver.vars
    (turned_higher c.args.self.now.trail.vars (record { var = c.in-Some.first.now.var; value = c.in-Some.first.now.positive; reason = c.in_ok-reason.reason }) (steps_of c.args.self.now.trail) (steps_of c.undo_to.new.self.trail) (steps_of c.push.new.self)
    c.in_ok-reason.ensures.implied undone.lower c.in_ok-push.ensures.pushed)
