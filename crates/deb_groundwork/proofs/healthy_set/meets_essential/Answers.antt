use Rattle.std.proofs.Common.{◌∙◌, sym}
use Rattle.std.proofs.lemmas.Bool.{not-true}
use Rattle.deb_groundwork.proofs.WitnessLemmas.{essential_held, unasked_essential}
use Rattle.deb_groundwork.proofs.healthy_set.meets_essential.Goals as goal

pub returns-then-has_any : goal.returns-then-has_any
returns-then-has_any g c = λ _ number at asked.
    essential_held c.args.part.now.index.now (g.P.Places.members c.args.set.now) c.args.position number c.essential_row.result.now c.essential_row.ensures at
    (sym c.has_any.ensures ∙ c.if-has_any.true)

pub returns : goal.returns
returns g c = λ absent number at.
    unasked_essential c.args.part.now (g.P.Places.members c.args.set.now) c.args.position number c.has.result at c.has.ensures (not-true c.has.result absent)
