use Rattle.deb_groundwork.proofs.WitnessLemmas.{apart_held, if_none}
use Rattle.deb_groundwork.proofs.rows.hits_no_other.Goals as goal

pub returns-in-Some : goal.returns-in-Some
returns-in-Some g c = λ none.
    apart_held c.args.index.now (g.P.Places.members c.args.set.now) c.args.place c.args.number c.in-Some.row.now c.in-Some.ensures.row
    (if_none _ c.other_in.result c.is_none.result c.is_none.ensures none c.other_in.ensures)
