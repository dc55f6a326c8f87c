use Rattle.number_sets.specs.Sets.{members_of}
use Rattle.deb_groundwork.specs.Groundwork.{HasAnswers}
use Rattle.deb_groundwork.proofs.GroundworkLemmas.{MarksFirst}
use Rattle.deb_groundwork.proofs.groundwork.mark_met.Given as goal

abbrev pub invariant-loop-place : goal.invariant-loop-place
invariant-loop-place l = MarksFirst (HasAnswers l.index (members_of l.forced)) l.place l.marks.items
