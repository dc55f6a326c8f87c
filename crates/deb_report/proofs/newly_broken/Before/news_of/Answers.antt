use Rattle.std.proofs.Common.{◌≡◌, ◌<◌, ◌∙◌, ap, arith, false, length, map, sym, true}
use Rattle.deb_health.specs.declared.shown.Shown.{Shown}
use Rattle.deb_report.specs.Since.{broken_view, is_news}
use Rattle.deb_health.specs.Verdicts.{IsAskedOf, shown_view}
use Rattle.number_sets.proofs.AtomSteps.{kept, left_out}
use Rattle.number_sets.proofs.ListLemmas.{all_item}
use Rattle.deb_report.proofs.newly_broken.Before.news_of.Goals as goal
use Rattle.deb_report.proofs.newly_broken.Before.news_of.Goals.{then-is_new+in_ok-push, else-is_new}

pub is_new-requires : goal.is_new-requires
is_new-requires c =
    let inside : c.loop-one.one-index < length c.args.broken.now = omega arith in
    (all_item (λ (one : Shown). IsAskedOf c.args.self.now.index.now (shown_view one)) c.args.broken.now c.loop-one.one-index c.one-item.result inside c.one-item.is c.requires).0

pub loop-one-preserved : goal.loop-one-preserved
loop-one-preserved c =
    let before = c.args.self.now in
    let test = is_news before.index.now (map broken_view before.packages.now) in
    let one = c.one-item.result in
    let inside : c.loop-one.one-index < length c.args.broken.now = omega arith in
    let tells : c.is_new.result ≡ test (shown_view one) = c.is_new.ensures in
    elim c.if-is_new.branch [
      | then-is_new+in_ok-push w ↦
          let passes : test (shown_view one) ≡ true = sym tells ∙ w.if-is_new.true in
          rw w.news-is (kept test shown_view shown_view _ c.loop-one.news.items _ c.args.broken.now c.loop-one.one-index one w.in_ok-push.ensures.items c.loop-one.invariant inside (ap shown_view c.one-item.is) passes)
      | else-is_new w ↦
          let fails : test (shown_view one) ≡ false = sym tells ∙ w.if-is_new.false in
          rw w.news-is (left_out test shown_view shown_view c.loop-one.news.items c.args.broken.now c.loop-one.one-index one c.loop-one.invariant inside (ap (λ shown. test (shown_view shown)) (sym c.one-item.is) ∙ fails))
    ]
