use Rattle.std.proofs.Common.{◌≡◌, ◌∙◌, ◌∷◌, [], ap, arith, map}
use Rattle.deb_relation.specs.Relationship.{atom_view}
use Rattle.deb_index.specs.declared.meets.Role.TheVariants.{Entry}
use Rattle.deb_index.specs.Packages.{IndexView}
use Rattle.deb_index.specs.Built.{catalog_view}
use Rattle.deb_index.specs.Rows.{satisfiers_as}
use Rattle.deb_index.proofs.RowLemmas.{alone}
use Rattle.deb_index.proofs.index.Index.satisfiers.Goals as goal

pub returns : goal.returns
returns c =
    let atom = atom_view c.args.atom.now in
    let seen : catalog_view c.self.inside.catalog ≡ c.args.self.now = c.self.view_is in
    c.in_ok-find.ensures.found.all (omega arith) ∙ (λ i. satisfiers_as Entry ((c.new.ensures ∙ c.new-lookup.ensures) i) (map atom_view (c.from_ref.ensures.value i)))
    ∙ ap (λ (index : IndexView). satisfiers_as Entry index (atom ∷ [])) seen ∙ alone c.args.self.now atom
