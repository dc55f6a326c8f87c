use Rattle.std.proofs.Common.{◌<◌, length, arith}
use Rattle.deb_groundwork.proofs.BearerLemmas.{answered_by_one}
use Rattle.deb_groundwork.proofs.answering.has_answer.Goals as goal

pub returns-then-has_bearer : goal.returns-then-has_bearer
returns-then-has_bearer g c = λ holds.
    let inside : c.loop-tried.tried < length c.need-alternatives.result.now = omega (arith, c.loop-tried-test.true, c.min-tried-end.ensures) in
    answered_by_one c.args.index.now (g.P.Places.members c.args.set.now) c.args.place c.args.number c.need-alternatives.result.now c.loop-tried.tried c.index-alternatives-tried.result
    c.need-alternatives.ensures inside c.index-alternatives-tried.is (c.if-has_bearer.ensures holds)
