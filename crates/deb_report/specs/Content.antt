-- What a report tells, whatever its form, and without where it lies in memory.
use Rattle.std.specs.Prelude.{ℕ, Bool, List, [], Option, None, Some, if◌then◌else◌, All, IfSome, map}
use Rattle.deb_index.specs.Packages.{IndexView}
use Rattle.deb_health.specs.Verdicts.{ToldView, IsAskedOf, shown_view}
use Rattle.deb_causes.specs.Causes.{CauseView, causes_list, IsCauseOf, cause_view}
use Rattle.deb_report.specs.Outcome.{broken_ones, shown_of}
use Rattle.run_settings.specs.Settings.{Settings}
use Rattle.run_settings.specs.declared.config.Show.{Show}
use Rattle.run_settings.specs.declared.config.Show.TheVariants.{Failures}
use Rattle.deb_report.specs.Since.{BrokenView, amends_of, counts_of, news_of, amends_view, broken_view}
use Rattle.std.specs.Borrow.{Bor}
use Rattle.std.specs.Option.{option_map}
use Rattle.deb_report.specs.declared.content.Content.{Content}
use Rattle.deb_report.specs.declared.summary.Counts.{Counts}
use Rattle.deb_report.specs.declared.newly_broken.Before.{Before}

-- the asked places that have a block, with what is told of them; what is counted; lists of broken packages of an earlier index, each under its title;
-- the causes, where they are asked for
pub record ContentView : Type 0 where
  pub blocks : List (ℕ × ToldView)
  pub counts : Counts
  pub lists : List (List ℕ × List BrokenView)
  pub causes : Option (List CauseView)

-- the asked places that have a block: those that are to be shown; since an earlier index the newly broken, whatever is to be shown
abbrev pub blocks_of : Show → IndexView → List ℕ → List ToldView → Option (List BrokenView) → List (ℕ × ToldView)
blocks_of show index asked told None = shown_of show asked told
blocks_of show index asked told (Some before) = news_of index asked told before

-- what became of the packages that were broken in an earlier index
abbrev pub lists_of : IndexView → List ℕ → List ToldView → Option (List BrokenView) → List (List ℕ × List BrokenView)
lists_of index asked told None = []
lists_of index asked told (Some before) = amends_of index asked (broken_ones asked told) before

-- the causes of broken packages, where causes are asked for
abbrev pub causes_if : Bool → IndexView → List (ℕ × ToldView) → Option (List CauseView)
causes_if causes index broken = if causes then Some (causes_list index broken) else None

-- of the asked places; and where packages that were broken in an earlier index are given, of what became of them since
abbrev pub content_of : Settings → IndexView → List ℕ → List ToldView → Option (List BrokenView) → ContentView
content_of settings index asked told before = record {
  blocks = blocks_of settings.show index asked told before;
  counts = counts_of index asked told before;
  lists = lists_of index asked told before;
  causes = causes_if settings.causes index (blocks_of Failures index asked told before);
}

abbrev pub content_view : Content → ContentView
content_view content = record {
  blocks = map shown_view content.blocks.items;
  counts = content.counts;
  lists = map amends_view content.lists.items;
  causes = option_map (λ causes. map cause_view causes.items) content.causes;
}

-- the packages that were broken in an earlier index
abbrev pub before_view : Option (Bor Before) → Option (List BrokenView)
before_view before = option_map (λ before. map broken_view before.now.packages.now) before

-- blocks and causes speak of what the index has
pub record IsContentOf (index : IndexView) (content : Content) : Type 0 where
  pub blocks : All (λ one. IsAskedOf index (shown_view one)) content.blocks.items
  pub causes : IfSome content.causes (λ causes. All (λ cause. IsCauseOf index (cause_view cause)) causes.items)
