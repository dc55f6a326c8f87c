use Rattle.std.proofs.lemmas.Bool.{not-true}
use Rattle.deb_groundwork.proofs.WitnessLemmas.{once_unasked, once_held}
use Rattle.deb_groundwork.proofs.healthy_set.stands_once.Goals as goal

pub returns-then-has_no_earlier : goal.returns-then-has_no_earlier
returns-then-has_no_earlier g c = λ _.
    once_held c.args.part.now (g.P.Places.members c.args.set.now) c.args.place c.name_of-name.result c.name_of-name.ensures.within c.name_of-name.ensures.name (c.has_no_earlier.ensures c.if-has_no_earlier.true)

pub returns : goal.returns
returns g c = λ absent.
    once_unasked c.args.part.now (g.P.Places.members c.args.set.now) c.args.place c.name_of-name.result c.name_of-name.ensures.within c.name_of-name.ensures.name
    c.only_position.result c.has.result c.only_position.ensures c.has.ensures (not-true c.has.result absent)
