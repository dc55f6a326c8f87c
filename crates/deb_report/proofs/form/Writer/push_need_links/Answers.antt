use Rattle.std.proofs.Common.{◌∙◌, ◌∷◌, [], ap, append_assoc, codes, refl, sym}
use Rattle.deb_relation.specs.Relationship.{atom_view, AtomText, printed}
use Rattle.deb_index.specs.declared.constraint.Constraint.TheVariants.{Need}
use Rattle.deb_index.specs.Packages.{need_at}
use Rattle.deb_report.specs.declared.form.Lead.TheVariants.{Within}
use Rattle.deb_report.specs.Forms.{list_in, name_in}
use Rattle.deb_report.specs.WalkLines.{links_in}
use Rattle.deb_report.specs.Reasons.{near_to_in}
use Rattle.deb_report.proofs.FormLemmas.{list_map}
use Rattle.deb_report.proofs.JoinLemmas.{added}
use Rattle.deb_report.proofs.form.Writer.push_need_links.Goals as goal

pub returns-in_ok-push_near_to : goal.returns-in_ok-push_near_to
unfolding links_in
returns-in_ok-push_near_to c =
    let form = c.args.self.now.config.now.format in
    let index = c.args.self.now.index.now in
    let name = λ (atom : AtomText). name_in form (printed atom) in
    let alternatives = list_in form Within (codes "alternatives") name in
    let need = Need c.args.place c.args.number in
    let group = added c.in_ok-push_list.ensures refl
    (sym (list_map form Within (codes "alternatives") name atom_view c.need-group.result.now) ∙ ap alternatives c.need-group.ensures) in
    rw (sym c.in_ok-is_missing.ensures ∙ c.if-branch.true)
    (added c.in_ok-push_near_to.ensures group (ap (near_to_in form index) c.from_ref.ensures.value)
    ∙ append_assoc c.args.out.now.items (alternatives (need_at index c.args.place c.args.number)) (near_to_in form index (need ∷ [])))
