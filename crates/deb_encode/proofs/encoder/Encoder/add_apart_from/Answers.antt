use Rattle.std.proofs.Common.{refl}
use Rattle.std.proofs.lemmas.Bool.{both_ways}
use Rattle.deb_encode.proofs.EncoderLemmas.{tells_none, tells_as}
use Rattle.deb_encode.proofs.Each.{each_none, each_more, each_whole}
use Rattle.deb_encode.proofs.Excluding.{pairs_out, pairs_held}
use Rattle.deb_encode.proofs.encoder.Encoder.add_apart_from.Goals as goal
use Rattle.deb_encode.proofs.encoder.Encoder.add_apart_from.Goals.{then-other-place+then-may_have+in_ok-add_if, else-other-place}
use Rattle.deb_encode.proofs.encoder.Encoder.add_apart_from.Goals.{else-other-place-via-then-other-place+else-may_have, else-other-place-via-else-other-place}

pub loop-other-init : goal.loop-other-init
loop-other-init c = each_none _ c.args.self.now

pub loop-other-preserved : goal.loop-other-preserved
loop-other-preserved c =
    elim c.if-other-place.branch [
      | then-other-place+then-may_have+in_ok-add_if w ↦
          rw w.self-is
          (each_more _ c.args.row.now c.loop-other.other-index _ c.args.self.now c.loop-other.self w.add_if.new.self c.loop-other-test.true refl c.loop-other.invariant
          (tells_as _ _ c.loop-other.self w.add_if.new.self (λ vars. (λ holds has also. absurd (pairs_out _ _ has also holds), λ one. pairs_held _ _ (λ has also. w.if-other-place.true (one has also)))) w.in_ok-add_if.ensures))
      | else-other-place w ↦
          rw w.self-is
          (each_more _ c.args.row.now c.loop-other.other-index _ c.args.self.now c.loop-other.self c.loop-other.self c.loop-other-test.true refl c.loop-other.invariant
          (tells_none _ c.loop-other.self (λ vars has also. elim w.else-other-place.branch [
            | else-other-place-via-then-other-place+else-may_have w' ↦ absurd (both_ways _ (w'.may_have.ensures w'.if-may_have.false vars) also)
            | else-other-place-via-else-other-place w' ↦ w'.if-other-place.false
          ])))
    ]

pub returns : goal.returns
returns c = each_whole _ c.args.row.now c.loop-other.other-index c.args.self.now c.loop-other.self c.loop-other-test.false c.loop-other.invariant
