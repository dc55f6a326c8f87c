use Rattle.std.proofs.Common.{[], ◌∷◌, ◌++◌, map, ◌∙◌, ap, arith}
use Rattle.sat_solve.specs.Clauses.{out_of}
use Rattle.sat_solve.proofs.Appended.{appended_start, appended_more, appended_whole}
use Rattle.sat_solve.proofs.formula.push_list.Goals as goal

pub loop-var-init : goal.loop-var-init
loop-var-init c = record {
  items = appended_start out_of c.args.list.now c.reserve.new.self.items;
  room = omega (arith, c.in_ok-reserve.ensures.ok);
}

pub loop-var-preserved : goal.loop-var-preserved
loop-var-preserved c = record {
  items = appended_more out_of c.args.list.now c.reserve.new.self.items c.loop-var.var-index 0 c.loop-var.literals.items c.push_reserved.new.self.items c.loop-var-test.true
      (c.push_reserved.ensures.items ∙ ap (λ literal. c.loop-var.literals.items ++ literal ∷ []) c.out.ensures) c.loop-var.invariant.items;
  room = omega (arith, c.push_reserved.ensures.len, c.push_reserved.ensures.capacity, c.loop-var.invariant.room);
}

pub returns-clause-ok : goal.returns-clause-ok
returns-clause-ok c =
    appended_whole out_of c.args.list.now c.reserve.new.self.items c.loop-var.var-index c.loop-var.literals.items c.loop-var-test.false c.loop-var.invariant.items
    ∙ ap (λ before. before ++ map out_of c.args.list.now) c.reserve.ensures.items
