use Rattle.std.proofs.Common.{◌∙◌, sym}
use Rattle.deb_relation.specs.Relationship.{atom_view}
use Rattle.deb_groundwork.proofs.BearerLemmas.{met_by_one}
use Rattle.deb_groundwork.proofs.answering.has_bearer.Goals as goal

pub returns-then-meets_need : goal.returns-then-meets_need
returns-then-meets_need g c = λ holds.
    met_by_one c.args.index.now (g.P.Places.members c.args.set.now) (atom_view c.args.atom.now) c.in-Some.place (sym c.has.ensures ∙ c.if-has.true) (sym c.meets_need.ensures ∙ c.if-meets_need.true)
