use Rattle.std.proofs.Common.{◌∙◌, subst}
use Rattle.deb_index.specs.Packages.{IndexView}
use Rattle.deb_index.specs.Links.{IsLinked}
use Rattle.deb_index.proofs.LinkLemmas.{entry-at, entry-within}
use Rattle.deb_index.proofs.RowLemmas.{row-is, row-there}
use Rattle.deb_index.proofs.index.Index.hit_row.Goals as goal

pub get-requires : goal.get-requires
get-requires c =
    let linked = subst (λ (w : IndexView). IsLinked w w.packages c.self.inside.links) c.self.view_is c.self.invariant.linked in
    entry-within c.args.self.now c.self.inside.links linked c.args.place c.requires.place c.start-first.result.entry c.args.number c.start-first.ensures.entry c.requires.number

pub returns-clause-row : goal.returns-clause-row
returns-clause-row c =
    let linked = subst (λ (w : IndexView). IsLinked w w.packages c.self.inside.links) c.self.view_is c.self.invariant.linked in
    row-is (λ r. r.now) _ _ c.get.result (c.get.ensures ∙ entry-at c.args.self.now c.self.inside.links linked c.args.place c.requires.place c.start-first.result.entry c.args.number c.start-first.ensures.entry c.requires.number)

pub returns-clause-short : goal.returns-clause-short
returns-clause-short c =
    let linked = subst (λ (w : IndexView). IsLinked w w.packages c.self.inside.links) c.self.view_is c.self.invariant.linked in
    row-there (λ r. r.now) _ _ c.get.result (c.get.ensures ∙ entry-at c.args.self.now c.self.inside.links linked c.args.place c.requires.place c.start-first.result.entry c.args.number c.start-first.ensures.entry c.requires.number)
