use Rattle.std.proofs.Common.{sym}
use Rattle.deb_encode.specs.Encoders.{all_places}
use Rattle.deb_encode.proofs.OneVersion.{names_none, names_more, names_passed, names_whole}
use Rattle.deb_encode.proofs.versions.list_names.Goals as goal
use Rattle.deb_encode.proofs.versions.list_names.Goals.{then-not-is_alone+in_ok-insert, else-not-is_alone}

pub loop-number-init : goal.loop-number-init
loop-number-init c = names_none c.args.play.now.index.now c.clear.new.self c.clear.ensures

pub loop-number-preserved : goal.loop-number-preserved
loop-number-preserved c =
    elim c.if-not-is_alone.branch [
      | then-not-is_alone+in_ok-insert w ↦
          rw w.found-is
          (names_more c.args.play.now.index.now (all_places c.args.play.now) c.loop-number.number c.place-place.result (rw (sym c.count-number-end.ensures) c.loop-number-test.true) c.place-place.ensures.at c.loop-number.found w.insert.new.self w.name_of.result
          w.name_of.ensures.within w.name_of.ensures.name w.in_ok-insert.ensures c.loop-number.invariant)
      | else-not-is_alone w ↦
          rw w.found-is
          (names_passed c.args.play.now.index.now (all_places c.args.play.now) c.loop-number.number c.place-place.result (rw (sym c.count-number-end.ensures) c.loop-number-test.true) c.place-place.ensures.at c.loop-number.found
          (c.is_alone.ensures w.if-not-is_alone.false) c.loop-number.invariant)
    ]

pub returns : goal.returns
returns c = names_whole c.args.play.now.index.now (all_places c.args.play.now) c.loop-number.found c.loop-number.number (rw (sym c.count-number-end.ensures) c.loop-number-test.false) c.loop-number.invariant
