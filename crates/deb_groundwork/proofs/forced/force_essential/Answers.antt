use Rattle.deb_groundwork.proofs.Forcing.{forced_both, forced_by_name}
use Rattle.deb_groundwork.proofs.forced.force_essential.Goals as goal

pub loop-position-preserved : goal.loop-position-preserved
loop-position-preserved c =
    forced_both c.args.index.now c.args.forced.now c.loop-position.forced c.take_only.new.forced c.loop-position.invariant
    (forced_by_name c.args.index.now c.loop-position.position c.essential_row.result.now c.loop-position.forced c.take_only.new.forced c.essential_row.ensures c.in_ok-take_only.ensures)
