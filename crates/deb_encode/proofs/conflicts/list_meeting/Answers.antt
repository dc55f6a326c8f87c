use Rattle.std.proofs.Common.{sym, ◌∙◌, ap}
use Rattle.deb_relation.specs.Relationship.{atom_view}
use Rattle.deb_index.specs.Meets.{meets_at}
use Rattle.number_sets.specs.Sets.{members_of}
use Rattle.deb_encode.specs.Encoders.{all_places}
use Rattle.deb_encode.proofs.Filtered.{passing_more, passing_skipped, passing_whole}
use Rattle.deb_encode.proofs.conflicts.list_meeting.Goals as goal
use Rattle.deb_encode.proofs.conflicts.list_meeting.Goals.{then-meets+in_ok-push, else-meets}

pub loop-number-init : goal.loop-number-init
loop-number-init c = λ q. ap (λ list. members_of list q) c.clear.ensures.items

pub loop-number-preserved : goal.loop-number-preserved
loop-number-preserved c =
    elim c.if-meets.branch [
      | then-meets+in_ok-push w ↦
          rw w.found-is
          (passing_more (λ q. meets_at c.args.play.now.index.now q (atom_view c.args.atom.now)) (all_places c.args.play.now) c.loop-number.number c.place-place.result (rw (sym c.count-number-end.ensures) c.loop-number-test.true) c.place-place.ensures.at c.loop-number.found.items c.loop-number.invariant
          w.push.new.self.items (sym c.meets.ensures ∙ w.if-meets.true) w.in_ok-push.ensures.items)
      | else-meets w ↦
          rw w.found-is
          (passing_skipped (λ q. meets_at c.args.play.now.index.now q (atom_view c.args.atom.now)) (all_places c.args.play.now) c.loop-number.number c.place-place.result (rw (sym c.count-number-end.ensures) c.loop-number-test.true) c.place-place.ensures.at c.loop-number.found.items c.loop-number.invariant
          (sym c.meets.ensures ∙ w.if-meets.false))
    ]

pub returns : goal.returns
returns c = passing_whole (λ q. meets_at c.args.play.now.index.now q (atom_view c.args.atom.now)) (all_places c.args.play.now) c.loop-number.number (rw (sym c.count-number-end.ensures) c.loop-number-test.false) c.loop-number.found.items c.loop-number.invariant
