use Rattle.std.proofs.Common.{◌≡◌, ◌∙◌, ℕ, List, None, Some, ap, length, map, rules}
use Rattle.std.specs.Option.{option_map}
use Rattle.deb_health.specs.declared.shown.Shown.{Shown}
use Rattle.deb_health.specs.Verdicts.{shown_view, told_view}
use Rattle.run_settings.specs.declared.config.Show.TheVariants.{Failures}
use Rattle.run_settings.specs.Settings.{settings_of}
use Rattle.deb_causes.specs.Causes.{cause_view}
use Rattle.deb_report.specs.Outcome.{broken_ones}
use Rattle.deb_report.specs.Since.{amends_of, amends_view, broken_view, is_news}
use Rattle.deb_report.specs.Content.{causes_if}
use Rattle.deb_report.proofs.ShownLemmas.{kept-within, shown-within}
use Rattle.deb_report.proofs.ReportLemmas.{content-is, counted, counts-since, listed-broken, news-are}
use Rattle.deb_report.proofs.content.content_of.Goals as goal

-- what holds of the broken ones

pub causes_if-requires : goal.causes_if-requires
causes_if-requires c =
    shown-within c.args.index.now Failures c.args.asked.now (map told_view c.args.told.now) c.as_slice-broken.result.now
    (ap (map shown_view) c.as_slice-broken.ensures.value ∙ c.in_ok-failures.ensures) c.requires.places c.requires.within

pub returns-in-None-clause-content : goal.returns-in-None-clause-content
returns-in-None-clause-content c =
    let index = c.args.index.now in
    let asked = c.args.asked.now in
    let told = map told_view c.args.told.now in
    let broken = c.as_slice-broken.result.now in
    let are : map shown_view broken ≡ broken_ones asked told = ap (map shown_view) c.as_slice-broken.ensures.value ∙ c.in_ok-failures.ensures in
    rw c.in-None.is
    (content-is index asked told (settings_of c.args.config.now) None (map shown_view c.in_ok-blocks-in-None.blocks.items) (map shown_view broken)
    (counted (length asked) (length broken) None) (map amends_view c.new.result.items)
    (option_map (λ list. map cause_view list.items) c.in_ok-causes-in-None.causes)
    c.in_ok-blocks-in-None.ensures are (ap (λ (count : ℕ). counted (length asked) count None) (listed-broken index asked told broken are))
    (ap (map amends_view) c.new.ensures.items) c.in_ok-causes-in-None.ensures.value)

pub returns-in-None-clause-within : goal.returns-in-None-clause-within
returns-in-None-clause-within c = record {
  blocks = shown-within c.args.index.now c.args.config.now.show c.args.asked.now (map told_view c.args.told.now) c.in_ok-blocks-in-None.blocks.items
      c.in_ok-blocks-in-None.ensures c.requires.places c.requires.within;
  causes = c.in_ok-causes-in-None.ensures.within;
}

-- since an earlier index

pub news_of-requires : goal.news_of-requires
news_of-requires c =
    rw (rw c.in-Some.is at c.requires.before)
    (shown-within c.args.index.now Failures c.args.asked.now (map told_view c.args.told.now) c.as_slice-broken.result.now
    (ap (map shown_view) c.as_slice-broken.ensures.value ∙ c.in_ok-failures.ensures) c.requires.places c.requires.within)

pub amends_of-requires-clause-broken : goal.amends_of-requires-clause-broken
amends_of-requires-clause-broken c =
    shown-within c.args.index.now Failures c.args.asked.now (map told_view c.args.told.now) c.as_slice-broken.result.now
    (ap (map shown_view) c.as_slice-broken.ensures.value ∙ c.in_ok-failures.ensures) c.requires.places c.requires.within

pub causes_if-requires-in-Some : goal.causes_if-requires-in-Some
causes_if-requires-in-Some c =
    rw c.as_slice.ensures.value
    (kept-within c.args.index.now (is_news c.in-Some.before.now.index.now (map broken_view c.in-Some.before.now.packages.now)) c.as_slice-broken.result.now
    c.in_ok-news-in-Some.news.items c.in_ok-news-in-Some.ensures
    (shown-within c.args.index.now Failures c.args.asked.now (map told_view c.args.told.now) c.as_slice-broken.result.now
    (ap (map shown_view) c.as_slice-broken.ensures.value ∙ c.in_ok-failures.ensures) c.requires.places c.requires.within))

pub returns-clause-content : goal.returns-clause-content
returns-clause-content c =
    let before = c.in-Some.before.now in
    let index = c.args.index.now in
    let asked = c.args.asked.now in
    let told = map told_view c.args.told.now in
    let packages = map broken_view before.packages.now in
    let broken = c.as_slice-broken.result.now in
    let news = c.in_ok-news-in-Some.news.items in
    let are : map shown_view broken ≡ broken_ones asked told = ap (map shown_view) c.as_slice-broken.ensures.value ∙ c.in_ok-failures.ensures in
    let size : c.len.result ≡ length news = search rules in
    let new = rw (rw c.in-Some.is at c.requires.before) at c.in_ok-news-in-Some.ensures in
    let told_new = news-are index asked told packages (map shown_view broken) (map shown_view news) are new in
    rw c.in-Some.is
    (content-is index asked told (settings_of c.args.config.now) (Some packages) (map shown_view news) (map shown_view news)
    (counted (length asked) (length broken) (Some c.len.result)) (map amends_view c.in_ok-lists-in-Some.lists.items)
    (option_map (λ list. map cause_view list.items) c.in_ok-causes-in-Some.causes)
    told_new told_new
    (ap (λ (count : ℕ). counted (length asked) (length broken) (Some count)) size ∙ counts-since index asked told packages broken news are new)
    (c.in_ok-lists-in-Some.ensures ∙ ap (λ listed. amends_of index asked listed packages) are)
    (c.in_ok-causes-in-Some.ensures.value ∙ ap (λ (shown : List Shown). causes_if c.args.config.now.causes index (map shown_view shown)) c.as_slice.ensures.value))

pub returns-clause-within : goal.returns-clause-within
returns-clause-within c = record {
  blocks = kept-within c.args.index.now (is_news c.in-Some.before.now.index.now (map broken_view c.in-Some.before.now.packages.now)) c.as_slice-broken.result.now
      c.in_ok-news-in-Some.news.items c.in_ok-news-in-Some.ensures
      (shown-within c.args.index.now Failures c.args.asked.now (map told_view c.args.told.now) c.as_slice-broken.result.now
      (ap (map shown_view) c.as_slice-broken.ensures.value ∙ c.in_ok-failures.ensures) c.requires.places c.requires.within);
  causes = c.in_ok-causes-in-Some.ensures.within;
}
