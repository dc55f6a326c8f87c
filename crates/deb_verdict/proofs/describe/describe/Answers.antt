use Rattle.std.proofs.Common.{sym, subst, rules}
use Rattle.std.proofs.lemmas.Result.{on_ok_weaker}
use Rattle.deb_encode.specs.declared.play.Play.{Play}
use Rattle.deb_encode.specs.Play.{Adds, placed}
use Rattle.deb_health.specs.Health.{IsHealthy}
use Rattle.deb_verdict.specs.Formulas.{AreUnmet, IsDescription}
use Rattle.deb_verdict.proofs.Described.{all_told, carry, described, unmet_in_play}
use Rattle.deb_verdict.proofs.describe.describe.Goals as goal

pub add_needs-requires : goal.add_needs-requires
add_needs-requires c =
    let At : Play → Type 0 = λ play. AreUnmet play.index.now play.forced.now play.candidates.now c.deref-2.result.now in
    (subst At (sym c.in_ok-add_essentials.ensures.same.play)
    (unmet_in_play c.new-play.result c.args.groundwork.now.index.now c.args.forced.now c.args.candidates.now c.deref-2.result.now
    c.new-play.ensures.index c.new-play.ensures.forced c.new-play.ensures.candidates c.deref-2.ensures.value c.requires.gathered)).0

pub returns : goal.returns
returns c =
    let index = c.args.groundwork.now.index.now in
    let before = c.args.formula.now in
    let last = c.add_versions.new.self.formula.now in
    on_ok_weaker c.add_versions.result (λ adds. subst (IsDescription index c.args.forced.now c.args.candidates.now.places) (search rules)
    (described index c.args.forced.now c.args.candidates.now.places before last c.requires.empty
    (carry (λ one forced candidates. Adds 0 (λ vars. IsHealthy one (placed forced candidates vars)) before last) _ _ _ _ _ _ c.new-play.ensures.index c.new-play.ensures.forced c.new-play.ensures.candidates
    (all_told c.deref-2.result.now _ c.add_essentials.new.self c.add_needs.new.encoder c.add_conflicts.new.self c.add_versions.new.self
    (unmet_in_play c.new-play.result index c.args.forced.now c.args.candidates.now c.deref-2.result.now
    c.new-play.ensures.index c.new-play.ensures.forced c.new-play.ensures.candidates c.deref-2.ensures.value c.requires.gathered)
    c.in_ok-add_essentials.ensures c.in_ok-add_needs.ensures c.in_ok-add_conflicts.ensures adds).adds))) c.add_versions.ensures
