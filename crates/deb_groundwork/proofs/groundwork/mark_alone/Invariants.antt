use Rattle.deb_index.specs.Constraints.{IsAlone}
use Rattle.deb_groundwork.proofs.GroundworkLemmas.{MarksFirst}
use Rattle.deb_groundwork.proofs.groundwork.mark_alone.Given as goal

abbrev pub invariant-loop-place : goal.invariant-loop-place
invariant-loop-place l = MarksFirst (IsAlone l.index) l.place l.marks.items
