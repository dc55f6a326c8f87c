use Rattle.deb_groundwork.proofs.GroundworkLemmas.{hits_only}
use Rattle.deb_groundwork.proofs.groundwork.hits_none.Goals as goal

pub returns-in-Some : goal.returns-in-Some
returns-in-Some c = λ holds. hits_only c.args.index.now c.args.place c.args.number c.in-Some.row.now c.in-Some.ensures.row (c.has_only.ensures holds)
