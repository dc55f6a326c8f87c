use Rattle.std.proofs.Common.{◌≡◌, ◌∙◌, ℕ, true, Bool, List, length, refl, ap, sym, subst, arith}
use Rattle.std.proofs.lemmas.List.{length-set}
use Rattle.sat_solve.specs.Rotation.{turned}
use Rattle.sat_solve.proofs.RotationLemmas.{untouched, same_turned}
use Rattle.sat_solve.proofs.rotation.Rotation.start.Goals as goal

pub loop-var-init : goal.loop-var-init
loop-var-init c = record {
  sized = omega (arith, c.in_ok-resize.ensures.len, c.resize.new.self.ok);
  group = refl;
  lists = refl;
  marks = refl;
}

pub loop-var-preserved : goal.loop-var-preserved
loop-var-preserved c = record {
  sized = ap length c.mark.ensures ∙ (length-set c.loop-var.self.inside.items _ true ∙ c.loop-var.invariant.sized);
  group = c.loop-var.invariant.group;
  lists = c.loop-var.invariant.lists;
  marks = c.loop-var.invariant.marks;
}

pub returns-then-has-clause-alone : goal.returns-then-has-clause-alone
returns-then-has-clause-alone c = λ met.
    let problem = c.args.problem.now in
    let inside = c.loop-var.self.inside.items in
    let set = c.turned-set.result in
    untouched problem inside c.args.group c.loop-var.invariant.sized
    (subst (λ (one : List Bool). turned one problem.vars problem.must ≡ true) c.turned-set.ensures.inside
    (subst (λ (var : ℕ). turned set.inside.now var problem.must ≡ true) c.turned-set.ensures.var (sym c.if-has.ensures)))
    (λ k. same_turned problem set.inside.now inside set.var problem.vars c.args.group (λ _. Unit {0}) c.turned-set.ensures.inside c.turned-set.ensures.var (λ k _. c.meets_all.ensures.met met k) k tt)
