use Rattle.std.proofs.Common.{◌∙◌, subst}
use Rattle.deb_index.specs.Packages.{IndexView}
use Rattle.deb_index.specs.Links.{IsLinked}
use Rattle.deb_index.proofs.LinkLemmas.{group-at, group-within}
use Rattle.deb_index.proofs.RowLemmas.{row-is, row-there}
use Rattle.deb_index.proofs.index.Index.answer_row.Goals as goal

pub get-requires : goal.get-requires
get-requires c =
    let linked = subst (λ (w : IndexView). IsLinked w w.packages c.self.inside.links) c.self.view_is c.self.invariant.linked in
    group-within c.args.self.now c.self.inside.links linked c.args.place c.requires.place c.start-first.result.group c.args.number c.start-first.ensures.group c.requires.number

pub returns-clause-row : goal.returns-clause-row
returns-clause-row c =
    let linked = subst (λ (w : IndexView). IsLinked w w.packages c.self.inside.links) c.self.view_is c.self.invariant.linked in
    row-is (λ r. r.now) _ _ c.get.result (c.get.ensures ∙ group-at c.args.self.now c.self.inside.links linked c.args.place c.requires.place c.start-first.result.group c.args.number c.start-first.ensures.group c.requires.number)

pub returns-clause-short : goal.returns-clause-short
returns-clause-short c =
    let linked = subst (λ (w : IndexView). IsLinked w w.packages c.self.inside.links) c.self.view_is c.self.invariant.linked in
    row-there (λ r. r.now) _ _ c.get.result (c.get.ensures ∙ group-at c.args.self.now c.self.inside.links linked c.args.place c.requires.place c.start-first.result.group c.args.number c.start-first.ensures.group c.requires.number)
