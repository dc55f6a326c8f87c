-- Which places are asked, which of their packages are shown with what is told of them, and the numbers of that.
use Rattle.std.specs.Prelude.{◌≡◌, ◌==◌, ℕ, Bool, List, Option, Some, None, Result, Ok, Err, find, length, take, ◌-◌, true, false, not, [], ◌∷◌, ◌++◌, codes, filter, if◌then◌else◌}
use Rattle.std.specs.List.{list_any, zip}
use Rattle.deb_index.specs.Constraints.{below}
use Rattle.deb_index.specs.Packages.{IndexView, PackageView, is_named, places_where}
use Rattle.deb_report.specs.declared.asked.AskedFault.{AskedFault}
use Rattle.deb_report.specs.declared.asked.AskedFault.TheVariants.{Unknown, Memory}
use Rattle.std.specs.Borrow.{Bor}
use Rattle.deb_health.specs.Verdicts.{ToldView, Installable, Found, Blocked}
use Rattle.run_settings.specs.declared.config.Show.{Show}
use Rattle.run_settings.specs.declared.config.Show.TheVariants.{All, Failures, Successes}
use Rattle.deb_report.specs.declared.summary.Counts.{Counts}
use Rattle.deb_report.specs.declared.summary.Summary.{Summary}

-- the list has no place
abbrev pub is_empty : List ℕ → Bool
is_empty places = length places == 0

-- the package has one of the names
abbrev pub is_listed : List (List ℕ) → PackageView → Bool
is_listed names deb = list_any (λ name. is_named name deb) names

-- the packages that can be asked: those of the foreground, whose places come first
abbrev pub foreground_packages : IndexView → List PackageView
foreground_packages index = take index.foreground index.packages

-- no package of the foreground has the name
abbrev pub is_unknown : IndexView → List ℕ → Bool
is_unknown index name = is_empty (places_where (is_named name) (foreground_packages index))

-- the places, unless some name is unknown
abbrev pub unless_unknown : Option (List ℕ) → List ℕ → Result (List ℕ) (List ℕ)
unless_unknown (Some name) places = Err name
unless_unknown None places = Ok places

-- all places of the foreground, or with a list of names those of its packages of these names, rising
abbrev pub listed_places : IndexView → Option (List (List ℕ)) → List ℕ
listed_places index None = below index.foreground
listed_places index (Some names) = places_where (is_listed names) (foreground_packages index)

-- the first listed name that no package of the foreground has
abbrev pub unknown_in : IndexView → Option (List (List ℕ)) → Option (List ℕ)
unknown_in index None = None
unknown_in index (Some names) = find (is_unknown index) names

-- the listed places, unless some name is unknown
unfoldable pub asked_places : IndexView → Option (List (List ℕ)) → Result (List ℕ) (List ℕ)
asked_places index only = unless_unknown (unknown_in index only) (listed_places index only)

-- why no places are asked: a listed name is unknown, or memory was wanted
abbrev pub FailsToAsk : IndexView → Option (List (List ℕ)) → AskedFault → Type 0
FailsToAsk index only (Unknown name) = asked_places index only ≡ Err name.items
FailsToAsk index only Memory = Unit {0}

-- ---- what is shown

-- the package cannot be installed
abbrev pub is_broken : ToldView → Bool
is_broken Installable = false
is_broken (Found places) = false
is_broken (Blocked cores) = true

-- whether a package of which this is told has a block
abbrev pub is_shown : Show → ToldView → Bool
is_shown All told = true
is_shown Failures told = is_broken told
is_shown Successes told = not (is_broken told)

-- the asked places that are shown, with what is told of them
abbrev pub shown_of : Show → List ℕ → List ToldView → List (ℕ × ToldView)
shown_of show asked told = filter (λ one. is_shown show one.1) (zip asked told)

-- the broken ones
abbrev pub broken_ones : List ℕ → List ToldView → List (ℕ × ToldView)
broken_ones asked told = shown_of Failures asked told

-- the status of a package
unfoldable pub status_of : ToldView → List ℕ
status_of Installable = codes "ok"
status_of (Found places) = codes "ok"
status_of (Blocked cores) = codes "broken"

-- ---- numbers

-- the numbers of a report, by what is counted; the packages behind the foreground are the background's
abbrev pub summary_with : IndexView → Counts → Summary
summary_with index counts = record {
  stanzas = index.stanzas;
  skipped = index.skipped;
  duplicates = index.duplicates;
  background = length index.packages - index.foreground;
  asked = counts.asked;
  broken = counts.broken;
  newly_broken = counts.newly_broken;
}

-- a number with its title, where there is one
abbrev pub number_if : List ℕ → Option ℕ → List (List ℕ × ℕ)
number_if title None = []
number_if title (Some number) = (title, number) ∷ []

-- these numbers, each with its title; the background's where one is read
unfoldable pub numbers_of : Bool → Summary → List (List ℕ × ℕ)
numbers_of background summary = (codes "stanzas", summary.stanzas) ∷ (codes "skipped", summary.skipped) ∷ (codes "duplicates", summary.duplicates)
    ∷ (if background then (codes "background", summary.background) ∷ [] else []) ++ (codes "asked", summary.asked) ∷ (codes "broken", summary.broken)
    ∷ number_if (codes "newly-broken") summary.newly_broken

abbrev pub number_view : Bor (List ℕ) × ℕ → List ℕ × ℕ
number_view number = (number.0.now, number.1)
