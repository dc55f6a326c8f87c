use Rattle.std.proofs.Common.{◌≡◌, ◌<◌, ◌++◌, ◌∷◌, [], ◌∙◌, ℕ, ap, arith, false, get_or, length, map, sym, take, true}
use Rattle.std.specs.List.{zip}
use Rattle.std.proofs.lemmas.List.{map-append}
use Rattle.deb_health.specs.Verdicts.{ToldView, told_view, shown_view}
use Rattle.deb_report.specs.Outcome.{is_shown}
use Rattle.number_sets.proofs.ListLemmas.{filter_fails, filter_passes, zip_more}
use Rattle.deb_report.proofs.shown.shown_of.Goals as goal
use Rattle.deb_report.proofs.shown.shown_of.Goals.{then-is_shown+in_ok-push, else-is_shown}

pub loop-i-preserved : goal.loop-i-preserved
loop-i-preserved c =
    let asked_inside : c.loop-i.i < length c.args.asked.now = omega arith in
    let inside : c.loop-i.i < length c.args.told.now = omega (arith, c.requires) in
    let one : ℕ × ToldView = (get_or c.args.asked.now c.loop-i.i 0, told_view c.index-told-i.result) in
    let test = λ (asked : ℕ × ToldView). is_shown c.args.show asked.1 in
    let before = zip (take c.loop-i.i c.args.asked.now) (map told_view (take c.loop-i.i c.args.told.now)) in
    let more = zip_more told_view c.args.asked.now c.args.told.now c.loop-i.i 0 c.index-told-i.result asked_inside inside c.index-told-i.is in
    elim c.if-is_shown.branch [
      | then-is_shown+in_ok-push w ↦
          let shows : test one ≡ true = sym c.is_shown.ensures ∙ w.if-is_shown.true in
          rw w.shown-is (ap (map shown_view) w.in_ok-push.ensures.items ∙ map-append shown_view c.loop-i.shown.items _ ∙ ap (λ front. front ++ one ∷ []) c.loop-i.invariant ∙ sym (filter_passes test before _ one more shows))
      | else-is_shown w ↦
          let hides : test one ≡ false = sym c.is_shown.ensures ∙ w.if-is_shown.false in
          rw w.shown-is (c.loop-i.invariant ∙ sym (filter_fails test before _ one more hides))
    ]
