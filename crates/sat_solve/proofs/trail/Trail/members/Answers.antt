use Rattle.std.proofs.Common.{sym, ◌≤◌, arith}
use Rattle.sat_solve.specs.Trail.{set_of, steps_of}
use Rattle.number_sets.proofs.MembersLemmas.{lists_more_in, lists_more_out, lists_all}
use Rattle.sat_solve.proofs.ValueLemmas.{set_of_past}
use Rattle.sat_solve.proofs.trail.Trail.members.Goals as goal
use Rattle.sat_solve.proofs.trail.Trail.members.Goals.{then-is_in+in_ok-push, else-is_in}

pub loop-var-preserved : goal.loop-var-preserved
loop-var-preserved c =
    elim c.if-is_in.branch [
      | then-is_in+in_ok-push w ↦
          rw (w.members-is, w.in_ok-push.ensures.items)
          (lists_more_in (set_of (steps_of c.args.self.now)) c.loop-var.var c.loop-var.members.items c.loop-var.invariant (sym w.if-is_in.ensures))
      | else-is_in w ↦
          rw w.members-is
          (lists_more_out (set_of (steps_of c.args.self.now)) c.loop-var.var c.loop-var.members.items c.loop-var.invariant (sym w.if-is_in.ensures))
    ]

pub returns-clause-same : goal.returns-clause-same
returns-clause-same c =
    lists_all (set_of (steps_of c.args.self.now)) c.loop-var.var c.loop-var.members.items c.loop-var.invariant
    (λ number past. let vars_past : c.args.self.now.vars ≤ number = omega (arith, c.loop-var-test.false) in set_of_past c.args.self.now.vars c.args.self.now.values.items (steps_of c.args.self.now) number c.requires vars_past)
