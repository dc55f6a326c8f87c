use Rattle.deb_relation.specs.Relationship.{atom_view}
use Rattle.deb_index.specs.Meets.{meets_at}
use Rattle.deb_encode.specs.Encoders.{all_places}
use Rattle.deb_encode.proofs.Filtered.{ListsPassing}
use Rattle.deb_encode.proofs.conflicts.list_meeting.Given as goal

abbrev pub invariant-loop-number : goal.invariant-loop-number
invariant-loop-number l = ListsPassing (λ q. meets_at l.play.index.now q (atom_view l.atom)) (all_places l.play) l.number l.found.items
