use Rattle.std.proofs.Common.{◌∙◌, sym}
use Rattle.number_sets.specs.Sets.{members_of}
use Rattle.deb_groundwork.proofs.HopelessLemmas.{unanswered_row}
use Rattle.deb_groundwork.proofs.hopeless.is_unanswered.Goals as goal

pub returns-in-Some : goal.returns-in-Some
returns-in-Some c = λ holds.
    unanswered_row c.args.index.now (members_of c.args.hopeless.now) c.args.place c.args.number c.in-Some.row.now c.in-Some.ensures.row (sym c.has_all.ensures ∙ holds)
