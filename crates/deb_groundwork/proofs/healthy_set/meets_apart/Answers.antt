use Rattle.std.proofs.lemmas.Bool.{not-true}
use Rattle.deb_index.specs.declared.constraint.Constraint.TheVariants.{Apart}
use Rattle.deb_groundwork.proofs.WitnessLemmas.{unasked}
use Rattle.deb_groundwork.proofs.healthy_set.meets_apart.Goals as goal

pub returns : goal.returns
returns g c = λ absent.
    unasked c.args.part.now (g.P.Places.members c.args.set.now) (Apart c.args.place c.args.number) c.apart_position.result c.has.result
    c.apart_position.ensures c.has.ensures (not-true c.has.result absent)
