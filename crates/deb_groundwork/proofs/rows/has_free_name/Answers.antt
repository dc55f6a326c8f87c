use Rattle.std.proofs.Common.{◌∙◌, sym}
use Rattle.std.proofs.lemmas.Bool.{not-true}
use Rattle.deb_groundwork.proofs.BaseLemmas.{no_version}
use Rattle.deb_groundwork.proofs.rows.has_free_name.Goals as goal

pub returns-then-versions : goal.returns-then-versions
returns-then-versions c = λ none.
    no_version c.args.index.now c.args.set.now c.versions_of-versions.result.now c.args.place c.versions_of-versions.ensures (sym c.has_any.ensures ∙ not-true c.has_any.result none)
