-- What a report tells, and what is counted of it.
use Rattle.std.proofs.Common.{◌≡◌, ◌<◌, ◌≤◌, ◌^◌, ◌∙◌, ℕ, List, IfSome, None, Option, Some, ap, ap₂, arith, filter, length, map, refl, subst, sym}
use Rattle.std.proofs.lemmas.List.{length-map}
use Rattle.std.proofs.lemmas.Slice.Zip.{length-zip}
use Rattle.std.specs.List.{zip}
use Rattle.deb_index.proofs.EnumerateLemmas.{filter-length}
use Rattle.deb_index.specs.Packages.{IndexView}
use Rattle.deb_health.specs.declared.shown.Shown.{Shown}
use Rattle.deb_health.specs.Verdicts.{shown_view, ToldView}
use Rattle.run_settings.specs.declared.config.Show.TheVariants.{Failures}
use Rattle.run_settings.specs.Settings.{Settings}
use Rattle.deb_causes.specs.Causes.{CauseView}
use Rattle.deb_report.specs.declared.summary.Counts.{Counts}
use Rattle.deb_report.specs.Outcome.{broken_ones, is_shown}
use Rattle.deb_report.specs.Since.{BrokenView, counts_of, is_news, news_of}
use Rattle.deb_report.specs.Content.{blocks_of, causes_if, content_of, lists_of}

-- ---- what is counted

abbrev pub counted : ℕ → ℕ → Option ℕ → Counts
counted asked broken news = record { asked = asked; broken = broken; newly_broken = news }

module _ (index : IndexView) (asked : List ℕ) (told : List ToldView) where
  -- as many are listed as are broken
  pub listed-broken : (broken : List Shown) → map shown_view broken ≡ broken_ones asked told → length broken ≡ length (broken_ones asked told)
  listed-broken broken are = sym (length-map broken shown_view) ∙ ap length are

  pub counts-since : (before : List BrokenView) (broken news : List Shown) → map shown_view broken ≡ broken_ones asked told
      → map shown_view news ≡ filter (is_news index before) (map shown_view broken) → counted (length asked) (length broken) (Some (length news)) ≡ counts_of index asked told (Some before)
  unfolding news_of
  counts-since before broken news are new =
      ap₂ (λ (count more : ℕ). counted (length asked) count (Some more)) (listed-broken broken are)
      (sym (length-map news shown_view) ∙ ap length (new ∙ ap (filter (is_news index before)) are))

  -- no more are broken, and no more newly broken, than are asked
  few-broken : length (broken_ones asked told) ≤ length asked
  few-broken =
      let broken = filter-length (λ (one : ℕ × ToldView). is_shown Failures one.1) (zip asked told) in
      omega (arith, length-zip asked told)

  few-news : (before : List BrokenView) → length (news_of index asked told before) ≤ length asked
  unfolding news_of
  few-news before =
      let new = filter-length (is_news index before) (broken_ones asked told) in
      omega (arith, few-broken)

  abbrev pub AreFew : Counts → Type 0
  AreFew counts = (counts.asked < 2 ^ 32) × (counts.broken < 2 ^ 32) × IfSome counts.newly_broken (λ count. count < 2 ^ 32)

  pub few-counts : (before : Option (List BrokenView)) (counts : Counts) → counts ≡ counts_of index asked told before → length asked < 2 ^ 32 → AreFew counts
  few-counts before counts is few = subst AreFew (sym is) (by before)
    where
      by : (before : Option (List BrokenView)) → AreFew (counts_of index asked told before)
      by None = (few, omega (arith, few, few-broken), tt)
      by (Some packages) = (few, omega (arith, few, few-broken), omega (arith, few, few-news packages))

  -- ---- what is told

  pub news-are : (before : List BrokenView) (broken news : List (ℕ × ToldView)) → broken ≡ broken_ones asked told → news ≡ filter (is_news index before) broken
      → news ≡ news_of index asked told before
  unfolding news_of
  news-are before broken news are new = new ∙ ap (filter (is_news index before)) are

  pub content-is : (settings : Settings) (before : Option (List BrokenView)) (blocks caused : List (ℕ × ToldView)) (counts : Counts)
      (lists : List (List ℕ × List BrokenView)) (causes : Option (List CauseView)) → blocks ≡ blocks_of settings.show index asked told before
      → caused ≡ blocks_of Failures index asked told before → counts ≡ counts_of index asked told before → lists ≡ lists_of index asked told before
      → causes ≡ causes_if settings.causes index caused
      → record { blocks = blocks; counts = counts; lists = lists; causes = causes } ≡ content_of settings index asked told before
  content-is settings before blocks caused counts lists causes shown are count list cause = rw (cause, list, count, are, shown) refl
