use Rattle.std.proofs.Common.{sym, ◌∙◌}
use Rattle.deb_index.proofs.NameLemmas.{entries-found, entries-none, places-found, places-none-named}
use Rattle.deb_index.proofs.names.Names.candidates.Goals as goal

pub returns-in-Some-clause-named : goal.returns-in-Some-clause-named
returns-in-Some-clause-named c = λ packages entries n.
    c.as_slice.ensures ∙ places-found n c.args.name.now c.in-Some.number (sym (rw c.in-Some.is at c.number.ensures.number)) c.index-lists.result.now c.index-lists.ensures

pub returns-in-Some-clause-provided : goal.returns-in-Some-clause-provided
returns-in-Some-clause-provided c = λ packages entries n.
    c.as_slice-in-Some.ensures ∙ entries-found n c.args.name.now c.in-Some.number (sym (rw c.in-Some.is at c.number.ensures.number)) c.index-lists.result.now c.index-lists.ensures

pub returns-in-None-clause-named : goal.returns-in-None-clause-named
returns-in-None-clause-named c = λ packages entries n. places-none-named n c.args.name.now (sym (rw c.in-None.is at c.number.ensures.number))

pub returns-in-None-clause-provided : goal.returns-in-None-clause-provided
returns-in-None-clause-provided c = λ packages entries n. entries-none n c.args.name.now (sym (rw c.in-None.is at c.number.ensures.number))
