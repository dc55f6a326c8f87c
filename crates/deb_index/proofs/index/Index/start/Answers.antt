use Rattle.std.proofs.Common.{length, subst, ap, arith}
use Rattle.deb_index.specs.Packages.{IndexView}
use Rattle.deb_index.specs.Links.{IsLinked}
use Rattle.deb_index.proofs.LinkLemmas.{entry-start, group-start, starts-long}
use Rattle.deb_index.proofs.index.Index.start.Goals as goal

pub index-requires : goal.index-requires
index-requires c = omega (arith, c.requires, starts-long _ _ c.self.invariant.linked, ap (λ (v : IndexView). length v.packages) c.self.view_is, c.self.inside.links.starts.ok)

pub returns-clause-group : goal.returns-clause-group
returns-clause-group c =
    let linked = subst (λ (w : IndexView). IsLinked w w.packages c.self.inside.links) c.self.view_is c.self.invariant.linked in
    group-start c.args.self.now c.self.inside.links linked c.args.place c.index.result.now c.requires c.index.ensures

pub returns-clause-entry : goal.returns-clause-entry
returns-clause-entry c =
    let linked = subst (λ (w : IndexView). IsLinked w w.packages c.self.inside.links) c.self.view_is c.self.invariant.linked in
    entry-start c.args.self.now c.self.inside.links linked c.args.place c.index.result.now c.requires c.index.ensures
