use Rattle.std.proofs.Common.{◌≡◌, ◌+◌, ◌-◌, ◌<◌, [], length, sym, subst, arith}
use Rattle.std.proofs.lemmas.List.Elements.{All-nil, All-push}
use Rattle.number_sets.specs.Sets.{NumberSet}
use Rattle.sat_solve.specs.Trail.{steps_of, IsLinked}
use Rattle.sat_solve.specs.Reasons.{IsSolution, IsMarkedSolution, Backs, AreReasoned, FailsOn, named_by}
use Rattle.sat_solve.specs.Jumps.{denied, IsJump}
use Rattle.sat_solve.specs.declared.clause.Lit.{Lit}
use Rattle.sat_solve.proofs.ReasonLemmas.{reasoned_more}
use Rattle.sat_solve.proofs.MarkLemmas.{learnt_more}
use Rattle.sat_solve.proofs.AnalysisLemmas.{WalkedTo, walk_begins, walk_ends, walked_by, walked_on, walked_forced, step_in_range, jump_taken, jump_past, jump_here}
use Rattle.sat_solve.proofs.analyze.Analysis.analyze.Goals as goal

pub loop-left-init : goal.loop-left-init
loop-left-init c =
    let all : c.len-left.result ≡ length c.args.solver.now.trail.steps.items = omega (arith, c.len-left.ensures, c.args.solver.now.trail.steps.ok) in
    let reasoned = reasoned_more (Backs c.args.problem.now c.args.solver.now.used.items) (Backs c.args.problem.now c.rest_on.new.used.items) (named_by c.args.problem.now c.as_slice-arena.result.now) (steps_of c.args.solver.now.trail) (λ reason set holds. ((c.in_ok-rest_on.ensures.backs set holds.0).0, holds.1)) (subst (λ arena. AreReasoned (Backs c.args.problem.now c.args.solver.now.used.items) (named_by c.args.problem.now arena) (steps_of c.args.solver.now.trail)) (sym c.as_slice-arena.ensures.value) c.requires.solver.reasoned) in
    let begins : WalkedTo (IsSolution c.args.problem.now) (IsMarkedSolution c.args.problem.now c.rest_on.new.used.items) (Backs c.args.problem.now c.rest_on.new.used.items) (named_by c.args.problem.now c.as_slice-arena.result.now) c.args.solver.now.trail.steps.items (length c.args.solver.now.trail.steps.items) c.rest_on.new.seen.items [] =
    walk_begins (IsSolution c.args.problem.now) (IsMarkedSolution c.args.problem.now c.rest_on.new.used.items) (Backs c.args.problem.now c.rest_on.new.used.items) (named_by c.args.problem.now c.as_slice-arena.result.now) c.args.solver.now.trail.steps.items (Backs c.args.problem.now c.args.solver.now.used.items c.args.conflict) c.rest_on.new.seen.items (named_by c.args.problem.now c.as_slice-arena.result.now c.args.conflict) c.in_ok-rest_on.ensures.backs c.requires.solver.sound reasoned (subst (λ arena. FailsOn (Backs c.args.problem.now c.args.solver.now.used.items c.args.conflict) (steps_of c.args.solver.now.trail) (named_by c.args.problem.now arena c.args.conflict)) (sym c.as_slice-arena.ensures.value) c.requires.conflict)
    c.in_ok-rest_on.ensures.seen.seen in
    record {
      used = c.in_ok-rest_on.ensures.used;
      fewer = λ set holds. holds;
      walked = rw (all, c.clear-2.ensures.items) begins;
      ranged = rw c.clear-2.ensures.items (All-nil (λ (literal : Lit). literal.var < c.args.problem.now.vars));
      jump = rw c.clear-2.ensures.items tt;
    }

pub loop-left-preserved-in-Some : goal.loop-left-preserved-in-Some
loop-left-preserved-in-Some c =
    let next : c.loop-left.left ≡ c.loop-left.left - 1 + 1 = omega (arith, c.loop-left-test.true) in
    let below : c.loop-left.left - 1 < length c.args.solver.now.trail.steps.items = omega (arith, c.loop-left.invariant.walked.inside, c.loop-left-test.true) in
    let jump : IsJump c.args.solver.now.trail.steps.items (c.loop-left.left - 1 + 1) c.loop-left.self.target c.loop-left.self.clause.items =
    subst (λ n. IsJump c.args.solver.now.trail.steps.items n c.loop-left.self.target c.loop-left.self.clause.items) next c.loop-left.invariant.jump in
    let linked : IsLinked c.args.problem.now.vars c.args.solver.now.trail.values.items (steps_of c.args.solver.now.trail) = subst (λ vars. IsLinked vars c.args.solver.now.trail.values.items (steps_of c.args.solver.now.trail)) c.requires.solver.vars c.requires.solver.linked in
    let ranged = step_in_range c.args.solver.now.trail.steps.items c.requires.solver.linked.fresh c.args.problem.now.vars c.args.solver.now.trail.values.items (c.loop-left.left - 1) c.index-step.result.now linked (below, sym c.index-step.ensures) in
    record {
      used = c.loop-left.invariant.used;
      fewer = c.loop-left.invariant.fewer;
      walked = rw (c.in_ok-push.ensures.items, c.denied.ensures)
          (walked_on (IsSolution c.args.problem.now) (IsMarkedSolution c.args.problem.now c.loop-left.used.items) (Backs c.args.problem.now c.rest_on.new.used.items) (named_by c.args.problem.now c.as_slice-arena.result.now) c.args.solver.now.trail.steps.items (c.loop-left.left - 1) c.index-step.result.now below (sym c.index-step.ensures) c.loop-left.left c.loop-left.self.seen.items c.loop-left.self.clause.items next c.loop-left.invariant.walked c.loop-left.self.target _ _ c.in-Some.ensures);
      ranged = rw (c.in_ok-push.ensures.items, c.denied.ensures) (All-push (λ (literal : Lit). literal.var < c.args.problem.now.vars) c.loop-left.self.clause.items (denied c.index-step.result.now) c.loop-left.invariant.ranged ranged);
      jump = rw (c.in_ok-push.ensures.items, c.denied.ensures)
          (jump_taken c.args.solver.now.trail.steps.items c.requires.solver.linked.fresh (c.loop-left.left - 1) c.index-step.result.now (below, sym c.index-step.ensures) c.loop-left.self.seen.items c.loop-left.self.clause.items c.loop-left.self.target _ _ c.in-Some.ensures jump);
    }

pub loop-left-preserved-in-Continue-branch-4 : goal.loop-left-preserved-in-Continue-branch-4
loop-left-preserved-in-Continue-branch-4 c =
    let next : c.loop-left.left ≡ c.loop-left.left - 1 + 1 = omega (arith, c.loop-left-test.true) in
    let below : c.loop-left.left - 1 < length c.args.solver.now.trail.steps.items = omega (arith, c.loop-left.invariant.walked.inside, c.loop-left-test.true) in
    let jump : IsJump c.args.solver.now.trail.steps.items (c.loop-left.left - 1 + 1) c.loop-left.self.target c.loop-left.self.clause.items =
    subst (λ n. IsJump c.args.solver.now.trail.steps.items n c.loop-left.self.target c.loop-left.self.clause.items) next c.loop-left.invariant.jump in
    record {
      used = c.in_ok-rest_on-2.ensures.used;
      fewer = λ set holds. c.loop-left.invariant.fewer set (c.in_ok-rest_on-2.ensures.backs set holds).0;
      walked = walked_forced (IsSolution c.args.problem.now) (IsMarkedSolution c.args.problem.now c.loop-left.used.items) (Backs c.args.problem.now c.rest_on.new.used.items) (named_by c.args.problem.now c.as_slice-arena.result.now) c.args.solver.now.trail.steps.items (c.loop-left.left - 1) c.index-step.result.now below (sym c.index-step.ensures) c.loop-left.left c.loop-left.self.seen.items c.loop-left.self.clause.items next c.loop-left.invariant.walked (IsMarkedSolution c.args.problem.now c.rest_on-in_default.new.used.items) c.rest_on-in_default.new.seen.items
          (λ set holds. (c.in_ok-rest_on-2.ensures.backs set holds).0)
          (λ set holds. (c.loop-left.invariant.fewer set (c.in_ok-rest_on-2.ensures.backs set holds).0, (c.in_ok-rest_on-2.ensures.backs set holds).1))
          (c.in_default.ensures c.index-step.result.now (below, sym c.index-step.ensures)) c.in_ok-rest_on-2.ensures.seen.kept c.in_ok-rest_on-2.ensures.seen.seen;
      ranged = c.loop-left.invariant.ranged;
      jump = jump_past c.args.solver.now.trail.steps.items c.requires.solver.linked.fresh (c.loop-left.left - 1) c.index-step.result.now (below, sym c.index-step.ensures) c.loop-left.self.clause.items c.loop-left.self.target jump;
    }

pub loop-left-preserved-then-is_decision : goal.loop-left-preserved-then-is_decision
loop-left-preserved-then-is_decision c =
    let next : c.loop-left.left ≡ c.loop-left.left - 1 + 1 = omega (arith, c.loop-left-test.true) in
    let below : c.loop-left.left - 1 < length c.args.solver.now.trail.steps.items = omega (arith, c.loop-left.invariant.walked.inside, c.loop-left-test.true) in
    let jump : IsJump c.args.solver.now.trail.steps.items (c.loop-left.left - 1 + 1) c.loop-left.self.target c.loop-left.self.clause.items =
    subst (λ n. IsJump c.args.solver.now.trail.steps.items n c.loop-left.self.target c.loop-left.self.clause.items) next c.loop-left.invariant.jump in
    let one : length c.loop-left.self.clause.items ≡ 1 = omega (arith, c.if-len-eq1.true, c.len.ensures, c.loop-left.self.clause.ok) in
    record {
      used = c.loop-left.invariant.used;
      fewer = c.loop-left.invariant.fewer;
      walked = walked_by (IsSolution c.args.problem.now) (IsMarkedSolution c.args.problem.now c.loop-left.used.items) (Backs c.args.problem.now c.rest_on.new.used.items) (named_by c.args.problem.now c.as_slice-arena.result.now) c.args.solver.now.trail.steps.items (c.loop-left.left - 1) c.index-step.result.now below (sym c.index-step.ensures) c.loop-left.left c.loop-left.self.seen.items c.loop-left.self.clause.items next c.loop-left.invariant.walked (sym c.if-has.ensures);
      ranged = c.loop-left.invariant.ranged;
      jump = jump_here c.args.solver.now.trail.steps.items c.requires.solver.linked.fresh (c.loop-left.left - 1) c.index-step.result.now (below, sym c.index-step.ensures) c.loop-left.self.clause.items c.loop-left.self.target one (sym c.if-is_decision.ensures) jump;
    }

pub loop-left-preserved : goal.loop-left-preserved
loop-left-preserved c =
    let next : c.loop-left.left ≡ c.loop-left.left - 1 + 1 = omega (arith, c.loop-left-test.true) in
    let below : c.loop-left.left - 1 < length c.args.solver.now.trail.steps.items = omega (arith, c.loop-left.invariant.walked.inside, c.loop-left-test.true) in
    let jump : IsJump c.args.solver.now.trail.steps.items (c.loop-left.left - 1 + 1) c.loop-left.self.target c.loop-left.self.clause.items =
    subst (λ n. IsJump c.args.solver.now.trail.steps.items n c.loop-left.self.target c.loop-left.self.clause.items) next c.loop-left.invariant.jump in
    record {
      used = c.loop-left.invariant.used;
      fewer = c.loop-left.invariant.fewer;
      walked = walked_by (IsSolution c.args.problem.now) (IsMarkedSolution c.args.problem.now c.loop-left.used.items) (Backs c.args.problem.now c.rest_on.new.used.items) (named_by c.args.problem.now c.as_slice-arena.result.now) c.args.solver.now.trail.steps.items (c.loop-left.left - 1) c.index-step.result.now below (sym c.index-step.ensures) c.loop-left.left c.loop-left.self.seen.items c.loop-left.self.clause.items next c.loop-left.invariant.walked (sym c.if-has.ensures);
      ranged = c.loop-left.invariant.ranged;
      jump = jump_past c.args.solver.now.trail.steps.items c.requires.solver.linked.fresh (c.loop-left.left - 1) c.index-step.result.now (below, sym c.index-step.ensures) c.loop-left.self.clause.items c.loop-left.self.target jump;
    }

pub returns-clause-solver : goal.returns-clause-solver
returns-clause-solver c =
    let fewer : (set : NumberSet) → IsMarkedSolution c.args.problem.now c.loop-left.used.items set → IsMarkedSolution c.args.problem.now c.args.solver.now.used.items set =
    λ set holds. (c.in_ok-rest_on.ensures.backs set (c.loop-left.invariant.fewer set holds)).0 in
    record {
      linked = c.requires.solver.linked;
      vars = c.requires.solver.vars;
      sound = c.requires.solver.sound;
      reasoned = reasoned_more (Backs c.args.problem.now c.args.solver.now.used.items) (Backs c.args.problem.now c.loop-left.used.items) (named_by c.args.problem.now c.args.solver.now.arena.items) (steps_of c.args.solver.now.trail) (λ reason set holds. (fewer set holds.0, holds.1)) c.requires.solver.reasoned;
      parts = c.requires.solver.parts;
      below = c.requires.solver.below;
      used = c.loop-left.invariant.used;
      learnt = learnt_more c.args.problem.now c.args.solver.now.used.items c.loop-left.used.items c.args.solver.now.learnt.items fewer c.requires.solver.learnt;
    }

pub returns-clause-learnt : goal.returns-clause-learnt
returns-clause-learnt c =
    let none : c.loop-left.left ≡ 0 = omega (arith, c.loop-left-test.false) in (
      c.loop-left.invariant.ranged,
      walk_ends (IsSolution c.args.problem.now) (IsMarkedSolution c.args.problem.now c.loop-left.used.items) (Backs c.args.problem.now c.rest_on.new.used.items) (named_by c.args.problem.now c.as_slice-arena.result.now) c.args.solver.now.trail.steps.items c.loop-left.self.seen.items c.loop-left.self.clause.items
          (subst (λ n. WalkedTo (IsSolution c.args.problem.now) (IsMarkedSolution c.args.problem.now c.loop-left.used.items) (Backs c.args.problem.now c.rest_on.new.used.items) (named_by c.args.problem.now c.as_slice-arena.result.now) c.args.solver.now.trail.steps.items n c.loop-left.self.seen.items c.loop-left.self.clause.items) none c.loop-left.invariant.walked),
    )

pub returns-clause-jump : goal.returns-clause-jump
returns-clause-jump c =
    let none : c.loop-left.left ≡ 0 = omega (arith, c.loop-left-test.false) in
    subst (λ n. IsJump c.args.solver.now.trail.steps.items n c.loop-left.self.target c.loop-left.self.clause.items) none c.loop-left.invariant.jump
