use Rattle.deb_encode.proofs.Excluding.{numbers_none, numbers_more, numbers_passed}
use Rattle.deb_encode.proofs.exclusion.list_variables.Goals as goal
use Rattle.deb_encode.proofs.exclusion.list_variables.Goals.{in-Some+in_ok-push, in_default}

pub loop-place-init : goal.loop-place-init
loop-place-init c = numbers_none c.args.play.now.candidates.now c.clear.new.self.items c.clear.ensures.items

pub loop-place-preserved : goal.loop-place-preserved
loop-place-preserved c =
    elim c.match-position_of.branch [
      | in-Some+in_ok-push w ↦
          rw w.list-is
          (numbers_more c.args.play.now.candidates.now c.args.places.now c.loop-place.place-index c.loop-place-test.true c.args.play.now.rising c.loop-place.list.items w.push.new.self.items w.in-Some.number
          w.in-Some.ensures.some w.in_ok-push.ensures.items c.loop-place.invariant)
      | in_default w ↦
          rw w.list-is
          (numbers_passed c.args.play.now.candidates.now c.args.places.now c.loop-place.place-index c.loop-place-test.true c.loop-place.list.items w.in_default.ensures.none c.loop-place.invariant)
    ]
