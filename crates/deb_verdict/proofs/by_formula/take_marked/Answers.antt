use Rattle.std.proofs.Common.{◌<◌, ℕ, List, length, sym, subst, arith}
use Rattle.deb_verdict.proofs.Answered.{TakenTo, marked_at, unmarked_at, taken_none, taken_more, taken_else, taken_all}
use Rattle.deb_verdict.proofs.by_formula.take_marked.Goals as goal
use Rattle.deb_verdict.proofs.by_formula.take_marked.Goals.{then-marks-group+in_ok-push, else-marks-group}

pub loop-group-init : goal.loop-group-init
loop-group-init c =
    let Taken : List ℕ → Type 0 = λ list. TakenTo c.args.positions.now c.args.marks.now 0 list in
    subst Taken (sym c.clear.ensures.items) (taken_none c.args.positions.now c.args.marks.now)

pub loop-group-preserved : goal.loop-group-preserved
loop-group-preserved c =
    let inside : c.loop-group.group < length c.args.marks.now = omega (arith, c.loop-group-test.true, c.requires) in
    elim c.if-marks-group.branch [
      | then-marks-group+in_ok-push w ↦
          rw w.used-is
          (taken_more c.args.positions.now c.args.marks.now c.loop-group.group c.loop-group.used.items c.loop-group.invariant
          (marked_at c.args.marks.now c.loop-group.group _ inside w.if-marks-group.true) w.push.new.self.items w.in_ok-push.ensures.items)
      | else-marks-group w ↦
          rw w.used-is
          (taken_else c.args.positions.now c.args.marks.now c.loop-group.group c.loop-group.used.items c.loop-group.invariant
          (unmarked_at c.args.marks.now c.loop-group.group _ inside w.if-marks-group.false))
    ]

pub returns : goal.returns
returns c =
    taken_all c.args.positions.now c.args.marks.now c.loop-group.group c.loop-group.used.items (omega (arith, c.loop-group-test.false, c.loop-group.auto.group-end)) c.loop-group.invariant
