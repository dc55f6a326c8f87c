use Rattle.std.proofs.Common.{refl}
use Rattle.deb_report.proofs.OwnLemmas.{says-more}
use Rattle.deb_report.proofs.own.OwnTable.new.Goals as goal

pub loop-constraint-preserved : goal.loop-constraint-preserved
loop-constraint-preserved c = λ q.
    says-more c.args.core.now c.loop-constraint.constraint-index q _ _ _ _ c.loop-constraint-test.true refl (c.in_ok-put_own.ensures q) (c.loop-constraint.invariant q)
