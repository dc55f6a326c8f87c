use Rattle.std.proofs.Common.{[]}
use Rattle.sat_solve.proofs.Appended.{appended_more}
use Rattle.deb_encode.proofs.Excluding.{owner_of}
use Rattle.deb_encode.proofs.exclusion.own_all.Goals as goal

pub loop-var-preserved : goal.loop-var-preserved
loop-var-preserved c =
    appended_more (owner_of c.args.group) c.args.list.now [] c.loop-var.var-index _ c.loop-var.owners.items c.push.new.self.items c.loop-var-test.true c.in_ok-push.ensures.items c.loop-var.invariant
