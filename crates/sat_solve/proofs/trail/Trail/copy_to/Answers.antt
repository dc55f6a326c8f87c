use Rattle.std.proofs.Common.{false, sym, ◌∙◌, ap, length, length-append, inl, inr, arith}
use Rattle.std.proofs.lemmas.Bool.{cases_lt}
use Rattle.std.proofs.lemmas.List.{get_or_past}
use Rattle.sat_solve.specs.Trail.{set_of, steps_of}
use Rattle.sat_solve.proofs.ValueLemmas.{set_of_past, copied_more}
use Rattle.sat_solve.proofs.trail.Trail.copy_to.Goals as goal

pub loop-var-preserved : goal.loop-var-preserved
loop-var-preserved c = record {
  sized = omega (arith, simp length-append at (ap length c.in_ok-push.ensures.items), c.loop-var.invariant.sized);
  same = rw (c.in_ok-push.ensures.items, c.is_in.ensures) (copied_more (set_of (steps_of c.args.self.now)) c.loop-var.inside.items c.loop-var.var c.loop-var.invariant.sized c.loop-var.invariant.same);
}

pub returns-clause-same : goal.returns-clause-same
returns-clause-same c = λ var. elim (cases_lt var c.loop-var.var) [
  | inl below ↦ c.loop-var.invariant.same var below
  | inr past ↦
      get_or_past c.loop-var.inside.items var false (omega (arith, c.loop-var.invariant.sized))
      ∙ sym (set_of_past c.args.self.now.vars c.args.self.now.values.items (steps_of c.args.self.now) var c.requires (omega (arith, c.loop-var-test.false)))
]
