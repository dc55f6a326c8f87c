use Rattle.number_sets.specs.Sets.{members_of}
use Rattle.deb_groundwork.specs.Groundwork.{HasAnswers}
use Rattle.deb_groundwork.proofs.GroundworkLemmas.{one_mark_more}
use Rattle.deb_groundwork.proofs.groundwork.mark_met.Goals as goal

pub loop-place-preserved : goal.loop-place-preserved
loop-place-preserved c =
    one_mark_more (HasAnswers c.args.index.now (members_of c.args.forced.now)) c.loop-place.marks.items c.push.new.self.items c.loop-place.place c.are_answered.result
    c.in_ok-push.ensures.items c.are_answered.ensures c.loop-place.invariant
