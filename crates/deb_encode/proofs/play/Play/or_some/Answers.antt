use Rattle.std.proofs.Common.{length}
use Rattle.deb_encode.specs.Encoders.{stands}
use Rattle.deb_encode.proofs.Widening.{some_settled, some_open}
use Rattle.deb_encode.proofs.play.Play.or_some.Goals as goal

pub returns-then-branch : goal.returns-then-branch
returns-then-branch c =
    some_settled (length c.args.self.now.candidates.now) (λ vars q. stands c.args.self.now vars c.args.positive q) c.args.places.now c.loop-place.place-index 0
    c.args.clause.now.items c.loop-place.clause.items c.or_place.new.clause.items c.in_ok-or_place.field-0 c.if-branch.true c.loop-place-test.true c.loop-place.invariant c.in_ok-or_place.ensures

pub loop-place-preserved : goal.loop-place-preserved
loop-place-preserved c =
    some_open (length c.args.self.now.candidates.now) (λ vars q. stands c.args.self.now vars c.args.positive q) c.args.places.now c.loop-place.place-index 0
    c.args.clause.now.items c.loop-place.clause.items c.or_place.new.clause.items c.in_ok-or_place.field-0 c.if-branch.false c.loop-place-test.true c.loop-place.invariant c.in_ok-or_place.ensures
