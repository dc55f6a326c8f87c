use Rattle.std.proofs.Common.{◌∙◌, false, ap}
use Rattle.deb_relation.specs.Relationship.{atom_view}
use Rattle.deb_index.specs.Meets.{meets_need}
use Rattle.deb_index.specs.Packages.{IndexView, PackageView, no_package}
use Rattle.deb_index.proofs.SeenLemmas.{seen-there}
use Rattle.deb_index.proofs.index.Index.meets_need.Goals as goal

pub returns : goal.returns
returns c =
    let index = c.args.self.now in
    let atom = atom_view c.args.atom.now in
    let arch = c.deref.ensures.value ∙ ap (λ (v : IndexView). v.arch) c.self.view_is in
    c.meets_need.ensures ∙ (λ i. meets_need (arch i) (c.package.ensures i) atom)
    ∙ seen-there (λ (q : PackageView). meets_need index.arch q atom) false index.packages c.args.place no_package c.requires
