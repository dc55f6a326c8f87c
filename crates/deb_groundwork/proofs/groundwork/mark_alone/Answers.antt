use Rattle.deb_index.specs.Constraints.{IsAlone}
use Rattle.deb_groundwork.proofs.GroundworkLemmas.{one_mark_more}
use Rattle.deb_groundwork.proofs.groundwork.mark_alone.Goals as goal

pub loop-place-preserved : goal.loop-place-preserved
loop-place-preserved c =
    one_mark_more (IsAlone c.args.index.now) c.loop-place.marks.items c.push.new.self.items c.loop-place.place c.is_alone.result c.in_ok-push.ensures.items c.is_alone.ensures c.loop-place.invariant
