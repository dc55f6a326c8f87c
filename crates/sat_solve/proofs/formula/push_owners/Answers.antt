use Rattle.std.proofs.Common.{◌++◌, map, ◌∙◌, ap, arith}
use Rattle.sat_solve.specs.Clauses.{span_of}
use Rattle.sat_solve.proofs.Appended.{appended_start, appended_more, appended_whole}
use Rattle.sat_solve.proofs.formula.push_owners.Goals as goal

pub loop-owner-init : goal.loop-owner-init
loop-owner-init c = record {
  items = appended_start (span_of c.args.start c.args.end) c.args.owners.now c.reserve.new.self.items;
  room = omega (arith, c.in_ok-reserve.ensures.ok);
}

pub loop-owner-preserved : goal.loop-owner-preserved
loop-owner-preserved c = record {
  items = appended_more (span_of c.args.start c.args.end) c.args.owners.now c.reserve.new.self.items c.loop-owner.owner-index _ c.loop-owner.spans.items c.push_reserved.new.self.items c.loop-owner-test.true
      c.push_reserved.ensures.items c.loop-owner.invariant.items;
  room = omega (arith, c.push_reserved.ensures.len, c.push_reserved.ensures.capacity, c.loop-owner.invariant.room);
}

pub returns-clause-ok : goal.returns-clause-ok
returns-clause-ok c =
    appended_whole (span_of c.args.start c.args.end) c.args.owners.now c.reserve.new.self.items c.loop-owner.owner-index c.loop-owner.spans.items c.loop-owner-test.false c.loop-owner.invariant.items
    ∙ ap (λ before. before ++ map (span_of c.args.start c.args.end) c.args.owners.now) c.reserve.ensures.items
