use Rattle.std.proofs.Common.{sym, ◌∙◌, ap}
use Rattle.deb_encode.specs.Exclusions.{is_of_name}
use Rattle.number_sets.specs.Sets.{members_of}
use Rattle.deb_encode.specs.Encoders.{all_places}
use Rattle.deb_encode.proofs.Filtered.{passing_more, passing_skipped, passing_whole}
use Rattle.deb_encode.proofs.versions.list_named.Goals as goal
use Rattle.deb_encode.proofs.versions.list_named.Goals.{then-is_named+in_ok-push, else-is_named}

pub loop-number-init : goal.loop-number-init
loop-number-init c = λ q. ap (λ list. members_of list q) c.clear.ensures.items

pub loop-number-preserved : goal.loop-number-preserved
loop-number-preserved c =
    elim c.if-is_named.branch [
      | then-is_named+in_ok-push w ↦
          rw w.found-is
          (passing_more (is_of_name c.args.play.now.index.now c.args.name) (all_places c.args.play.now) c.loop-number.number c.place-place.result (rw (sym c.count-number-end.ensures) c.loop-number-test.true) c.place-place.ensures.at c.loop-number.found.items c.loop-number.invariant
          w.push.new.self.items (sym c.is_named.ensures ∙ w.if-is_named.true) w.in_ok-push.ensures.items)
      | else-is_named w ↦
          rw w.found-is
          (passing_skipped (is_of_name c.args.play.now.index.now c.args.name) (all_places c.args.play.now) c.loop-number.number c.place-place.result (rw (sym c.count-number-end.ensures) c.loop-number-test.true) c.place-place.ensures.at c.loop-number.found.items c.loop-number.invariant
          (sym c.is_named.ensures ∙ w.if-is_named.false))
    ]

pub returns : goal.returns
returns c = passing_whole (is_of_name c.args.play.now.index.now c.args.name) (all_places c.args.play.now) c.loop-number.number (rw (sym c.count-number-end.ensures) c.loop-number-test.false) c.loop-number.found.items c.loop-number.invariant
