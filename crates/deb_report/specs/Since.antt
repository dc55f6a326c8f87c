-- What became of the packages of an index since an earlier one.
use Rattle.std.specs.Prelude.{◌≡◌, ◌<◌, ℕ, Bool, false, not, ◌&&◌, List, [], ◌∷◌, Option, None, Some, codes, filter, length, map, position, slice_index_or}
use Rattle.std.specs.List.{list_any}
use Rattle.std.specs.Option.{option_map_or}
use Rattle.std.specs.Str.{bytes_eq}
use Rattle.deb_index.specs.Packages.{IndexView, is_named, name_at, names, package_at}
use Rattle.deb_health.specs.Verdicts.{ToldView}
use Rattle.deb_report.specs.declared.amends.Amends.{Amends}
use Rattle.deb_report.specs.declared.broken.BrokenPackage.{BrokenPackage}
use Rattle.deb_report.specs.declared.summary.Counts.{Counts}
use Rattle.deb_report.specs.declared.summary.Summary.{Summary}
use Rattle.deb_report.specs.Outcome.{is_unknown, broken_ones, summary_with}

-- a broken package of an earlier index
pub record BrokenView : Type 0 where
  pub name : List ℕ
  pub version : List ℕ

abbrev pub broken_view : BrokenPackage → BrokenView
broken_view deb = record { name = deb.name.items; version = deb.version.items }

-- the name and the version of the package at a place
abbrev pub broken_at : IndexView → ℕ → BrokenView
broken_at index place = let deb = package_at index place in record { name = deb.name; version = deb.version }

-- the broken packages, in the order of the asked places
unfoldable pub broken_of : IndexView → List ℕ → List ToldView → List BrokenView
broken_of index asked told = map (λ one. broken_at index one.0) (broken_ones asked told)

-- a package that was broken has the name
abbrev pub was_broken : List BrokenView → List ℕ → Bool
was_broken before name = list_any (λ deb. bytes_eq deb.name name) before

-- no package of the name of the one at a place was broken
abbrev pub is_new : IndexView → List BrokenView → ℕ → Bool
is_new index before place = not (was_broken before (package_at index place).name)

-- the broken package is newly broken: none of its name was
abbrev pub is_news : IndexView → List BrokenView → ℕ × ToldView → Bool
is_news index before one = is_new index before one.0

-- the newly broken of the asked places, with what is told of them
unfoldable pub news_of : IndexView → List ℕ → List ToldView → List BrokenView → List (ℕ × ToldView)
news_of index asked told before = filter (is_news index before) (broken_ones asked told)

-- a package at one of the places has the name
abbrev pub has_named : IndexView → List ℕ → List ℕ → Bool
has_named index places name = list_any (λ place. is_named name (package_at index place)) places

-- the package was broken and is mended: one of its name is asked, and none of these is broken
abbrev pub is_mended : IndexView → List ℕ → List (ℕ × ToldView) → BrokenView → Bool
is_mended index asked broken deb = has_named index asked deb.name && not (has_named index (map (λ one. one.0) broken) deb.name)

-- the package was broken and is gone: no package of the foreground has its name
abbrev pub is_gone : IndexView → BrokenView → Bool
is_gone index deb = is_unknown index deb.name

-- the broken packages of the earlier index that are mended, and those that are gone, in its order, each under its title
unfoldable pub amends_of : IndexView → List ℕ → List (ℕ × ToldView) → List BrokenView → List (List ℕ × List BrokenView)
amends_of index asked broken before = (codes "mended", filter (is_mended index asked broken) before) ∷ (codes "gone", filter (is_gone index) before) ∷ []

abbrev pub amends_view : Amends → List ℕ × List BrokenView
amends_view amends = (amends.title.now, map (λ deb. broken_view deb.now) amends.packages.items)

-- marks of the index's names: of each, whether it passes a test
abbrev pub AreMarks : IndexView → (List ℕ → Bool) → List Bool → Type 0
AreMarks index test marks = (length marks ≡ length (names index)) × ((n : ℕ) → n < length (names index) → slice_index_or marks n false ≡ test (name_at index n))

-- the mark of a name; a name that the index doesn't have has none
abbrev pub mark_of : IndexView → List Bool → List ℕ → Bool
mark_of index marks name = option_map_or (λ n. slice_index_or marks n false) (position (bytes_eq name) (names index)) false

-- how many are newly broken, where an earlier index is read
abbrev pub newly_broken_of : IndexView → List ℕ → List ToldView → Option (List BrokenView) → Option ℕ
newly_broken_of index asked told None = None
newly_broken_of index asked told (Some before) = Some (length (news_of index asked told before))

-- what is counted of asked places, since these packages were broken, where an earlier index is read
abbrev pub counts_of : IndexView → List ℕ → List ToldView → Option (List BrokenView) → Counts
counts_of index asked told before = record {
  asked = length asked;
  broken = length (broken_ones asked told);
  newly_broken = newly_broken_of index asked told before;
}

-- the numbers of a report
abbrev pub summary_of : IndexView → List ℕ → List ToldView → Option (List BrokenView) → Summary
summary_of index asked told before = summary_with index (counts_of index asked told before)
