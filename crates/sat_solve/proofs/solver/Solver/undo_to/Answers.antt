use Rattle.std.proofs.Common.{◌≡◌, ◌+◌, ◌≤◌, refl, length, reverse, take, ◌∙◌, ap, subst, arith}
use Rattle.std.proofs.lemmas.List.{length-reverse}
use Rattle.sat_solve.specs.Trail.{IsLinked, steps_of}
use Rattle.sat_solve.specs.Reasons.{end_before}
use Rattle.sat_solve.proofs.BackjumpLemmas.{UndoneTo, undone_none, undone_more, popped_solver}
use Rattle.sat_solve.proofs.solver.Solver.undo_to.Goals as goal

pub steps-init : goal.steps-init
steps-init c = record {
  linked = c.requires;
  used = refl;
  vars = refl;
  keeps = λ problem is. is;
  undone = undone_none c.args.self.now.trail.vars c.args.place c.args.self.now.trail.steps.items;
}

pub steps-preserved : goal.steps-preserved
steps-preserved c =
    let count : length c.steps.self.trail.steps.items ≡ length c.pop.new.self.steps.items + 1 =
    omega (arith, ap length c.in-Some.ensures.popped, length-reverse c.steps.self.trail.steps.items, length-reverse c.pop.new.self.steps.items) in
    let len_is : c.len-in-steps.result ≡ length c.steps.self.arena.items = omega (arith, c.len-in-steps.ensures, c.steps.self.arena.ok) in
    record {
      linked = c.in-Some.ensures.linked;
      used = c.steps.invariant.used;
      vars = c.in-Some.ensures.vars ∙ c.steps.invariant.vars;
      keeps = λ problem is. popped_solver problem c.steps.self _ c.in-Some.step c.in-Some.ensures.popped c.in-Some.ensures.linked c.in-Some.ensures.vars
          (c.truncate.ensures.items ∙ ap (λ n. take n c.steps.self.arena.items) (c.end_before-end.ensures ∙ ap (end_before c.in-Some.step.reason) len_is))
          (omega (arith, c.min-self.ensures))
          (omega (arith, c.min-self.ensures))
          refl
          refl
          (c.steps.invariant.keeps problem is);
      undone = undone_more c.args.self.now.trail.vars c.args.place c.args.self.now.trail.steps.items c.steps.self.trail.values.items (steps_of c.steps.self.trail) (steps_of c.pop.new.self) c.in-Some.step (length c.pop.new.self.steps.items)
          (subst (λ n. IsLinked n c.steps.self.trail.values.items (steps_of c.steps.self.trail)) c.steps.invariant.vars c.steps.invariant.linked)
          c.in-Some.ensures.popped
          (omega (arith, c.steps-test.true, c.len.ensures, c.steps.self.trail.steps.ok))
          (subst (λ n. UndoneTo c.args.self.now.trail.vars c.args.place c.args.self.now.trail.steps.items (steps_of c.steps.self.trail) n) count c.steps.invariant.undone);
    }

pub returns-in_default-clause-undone : goal.returns-in_default-clause-undone
returns-in_default-clause-undone c = λ decision at decided.
    absurd (omega (arith, c.steps-test.true, c.len.ensures, c.steps.self.trail.steps.ok, ap length c.in_default.ensures.none, length-reverse c.steps.self.trail.steps.items))

pub returns-clause-undone : goal.returns-clause-undone
returns-clause-undone c = λ decision at decided.
    let past : length c.steps.self.trail.steps.items ≤ c.args.place = omega (arith, c.steps-test.false, c.len.ensures, c.steps.self.trail.steps.ok) in
    let lower = c.steps.invariant.undone.lower decision at decided past in
    record {
      linked = c.steps.invariant.linked;
      vars = c.steps.invariant.vars;
      keeps = c.steps.invariant.keeps;
      cut = c.steps.invariant.undone.cut ∙ ap (λ n. reverse (take n c.args.self.now.trail.steps.items)) lower.0;
      lower = lower.1;
    }
