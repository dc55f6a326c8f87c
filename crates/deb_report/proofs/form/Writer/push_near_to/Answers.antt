use Rattle.std.proofs.Common.{◌∙◌, Bor, List, ℕ, ap, append_assoc, codes, map, refl, sym}
use Rattle.deb_causes.specs.Near.{near_misses, near_view, similar_names}
use Rattle.deb_report.specs.Forms.{name_in, some_in}
use Rattle.deb_report.specs.Reasons.{near_in, near_to_in}
use Rattle.deb_report.proofs.FormLemmas.{some_map}
use Rattle.deb_report.proofs.JoinLemmas.{added}
use Rattle.deb_report.proofs.form.Writer.push_near_to.Goals as goal

pub returns : goal.returns
unfolding near_to_in
returns c =
    let form = c.args.self.now.config.now.format in
    let index = c.args.self.now.index.now in
    let constraints = c.args.constraints.now in
    let present = some_in form (codes "present") (near_in form) in
    let similar = some_in form (codes "similar") (name_in form) in
    let misses = added c.in_ok-push_some.ensures refl
    (sym (some_map form (codes "present") (near_in form) near_view _) ∙ ap (λ misses. present (map near_view misses)) c.as_slice.ensures.value
    ∙ ap present c.in_ok-misses.ensures) in
    added c.in_ok-push_some-2.ensures misses
    (sym (some_map form (codes "similar") (name_in form) (λ (name : Bor (List ℕ)). name.now) _)
    ∙ ap (λ names. similar (map (λ (name : Bor (List ℕ)). name.now) names)) c.as_slice-2.ensures.value ∙ ap similar c.in_ok-names.ensures)
    ∙ append_assoc c.args.out.now.items (present (near_misses index constraints)) (similar (similar_names index constraints))
