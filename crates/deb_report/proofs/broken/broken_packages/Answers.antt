use Rattle.std.proofs.Common.{◌≡◌, ◌<◌, ◌∙◌, ℕ, arith, ap, length, map, sym, take}
use Rattle.std.proofs.lemmas.List.{take_all}
use Rattle.deb_health.specs.Verdicts.{ToldView, told_view, shown_view}
use Rattle.run_settings.specs.declared.config.Show.TheVariants.{Failures}
use Rattle.deb_health.specs.declared.shown.Shown.{Shown}
use Rattle.deb_report.specs.Since.{broken_at, broken_of}
use Rattle.number_sets.proofs.ListLemmas.{all_item, map-twice}
use Rattle.deb_report.proofs.ShownLemmas.{shown-placed}
use Rattle.deb_report.proofs.broken.broken_packages.Goals as goal

pub broken_at-requires : goal.broken_at-requires
broken_at-requires c =
    let limit = length c.args.index.now.packages in
    let shown = c.as_slice-shown.result.now in
    let inside : c.loop-one.one-index < length shown = omega arith in
    let are = ap (map shown_view) c.as_slice-shown.ensures.value ∙ c.in_ok-failures.ensures in
    all_item (λ (one : Shown). one.place < limit) shown c.loop-one.one-index c.one-item.result inside c.one-item.is
    (shown-placed limit Failures c.args.asked.now (map told_view c.args.told.now) shown are c.requires.places)

pub returns : goal.returns
unfolding broken_of
returns c =
    let index = c.args.index.now in
    let shown = c.as_slice-shown.result.now in
    let all : take c.loop-one.one-index shown ≡ shown = take_all _ _ (omega arith) in
    c.loop-one.invariant ∙ ap (map (λ (one : Shown). broken_at index one.place)) all ∙ sym (map-twice (λ (one : ℕ × ToldView). broken_at index one.0) shown_view shown)
    ∙ ap (map (λ (one : ℕ × ToldView). broken_at index one.0)) (ap (map shown_view) c.as_slice-shown.ensures.value ∙ c.in_ok-failures.ensures)
