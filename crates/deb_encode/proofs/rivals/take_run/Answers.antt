use Rattle.std.proofs.Common.{arith}
use Rattle.deb_encode.proofs.WideEntries.{run_more}
use Rattle.deb_encode.proofs.rivals.take_run.Goals as goal

pub loop-end-preserved : goal.loop-end-preserved
loop-end-preserved c = record {
  past = omega (arith, c.loop-end.invariant.past);
  within = omega (arith, c.loop-end-test.true);
  run =
      run_more c.args.index.now c.args.entries.now c.args.start c.loop-end.end c.loop-end.owners.items c.push-in-loop-end.new.self.items (omega (arith, c.loop-end.invariant.past)) (c.is_same.ensures c.if-not-is_same.false)
      c.in_ok-push-2.ensures.items c.loop-end.invariant.run;
}
