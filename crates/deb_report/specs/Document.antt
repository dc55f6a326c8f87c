-- The report in its form: lines, or one JSON document (RFC 8259).
use Rattle.std.specs.Prelude.{ℕ, Bool, false, ◌==◌, List, [], ◌∷◌, ◌++◌, codes, if◌then◌else◌, length, Option, None, is_some}
use Rattle.std.specs.List.{flat_map}
use Rattle.deb_index.specs.declared.constraint.Constraint.{Constraint}
use Rattle.deb_index.specs.Packages.{IndexView, package_at}
use Rattle.deb_health.specs.Verdicts.{ToldView, Installable, Found, Blocked}
use Rattle.deb_report.specs.Outcome.{numbers_of, status_of, summary_with}
use Rattle.deb_report.specs.Since.{BrokenView}
use Rattle.deb_report.specs.Forms.{OfPackage, block_end, each_in, elements_in, item_end, item_in, list_in, number_in, one_of, quoted, string_in, title_in}
use Rattle.deb_report.specs.WalkLines.{links_in, walk_lines}
use Rattle.deb_report.specs.Reasons.{place_in, reason_front}
use Rattle.deb_report.specs.declared.form.Lead.TheVariants.{Block, Other, Tall, Within}
use Rattle.deb_report.specs.CauseText.{causes_in}
use Rattle.deb_report.specs.Content.{ContentView, content_of}
use Rattle.run_settings.specs.Settings.{Settings, options_of}
use Rattle.run_settings.specs.declared.config.Format.{Format}
use Rattle.run_settings.specs.declared.config.Format.TheVariants.{Json, Text}

-- ---- blocks

-- a constraint of a core, with where a walk goes on from it
unfoldable pub told_in : IndexView → Settings → Constraint → List ℕ
told_in index settings constraint = reason_front settings.format index constraint
    ++ (if settings.why then links_in settings.format index constraint else []) ++ item_end settings.format

-- lines tell a walk as it goes
abbrev pub is_walked : Format → Bool → Bool
is_walked Text why = why
is_walked Json why = false

-- a core of the package at a place
unfoldable pub core_in : IndexView → Settings → ℕ → List Constraint → List ℕ
core_in index settings place core = if is_walked settings.format settings.why then codes "\n" ++ walk_lines index place core
    else elements_in settings.format Within (told_in index settings) core

-- the title of the first core
abbrev pub first_title : Bool → List ℕ
first_title walked = if walked then codes "why" else codes "reasons"

-- those behind the first, or how many they are
unfoldable pub later_in : IndexView → Settings → ℕ → List (List Constraint) → List ℕ
later_in index settings place later = if settings.all_reasons then each_in settings.format (codes "also") (core_in index settings place) later
    else if length later == 0 then [] else number_in settings.format Within (codes "further") (length later)

-- the first core of the package at a place, and those behind it
unfoldable pub all_cores : IndexView → Settings → ℕ → List (List Constraint) → List ℕ
all_cores index settings place [] = []
all_cores index settings place (core ∷ later) = title_in settings.format Within (first_title (is_walked settings.format settings.why))
    ++ core_in index settings place core ++ later_in index settings place later

-- the set that was found, or what stands against each set
unfoldable pub explanation_in : IndexView → Settings → ℕ × ToldView → List ℕ
explanation_in index settings (place, Installable) = []
explanation_in index settings (place, Found places) = list_in settings.format Within (codes "installation-set") (place_in settings.format index) places
explanation_in index settings (place, Blocked cores) = all_cores index settings place cores

-- an asked place and what is told of it
unfoldable pub block_in : IndexView → Settings → ℕ × ToldView → List ℕ
block_in index settings asked = let form = settings.format in let deb = package_at index asked.0 in string_in form Block (codes "package") deb.name
    ++ string_in form Within (codes "version") deb.version
    ++ string_in form Within (codes "architecture") deb.architecture
    ++ string_in form Within (codes "status") (status_of asked.1)
    ++ (if settings.explain then explanation_in index settings asked else [])
    ++ block_end form

-- ---- the whole

-- a broken package of an earlier index
abbrev pub broken_in : Format → BrokenView → List ℕ
broken_in form deb = item_in form Other (OfPackage deb.name deb.version ∷ [])

-- a number under its title
abbrev pub counted_in : Format → List ℕ × ℕ → List ℕ
counted_in form number = number_in form Other number.0 number.1

-- such packages under their title
abbrev pub amended_in : Format → List ℕ × List BrokenView → List ℕ
amended_in form list = list_in form Other list.0 (broken_in form) list.1

-- what a document begins with: the number of its form, and the words that it is made under
unfoldable pub head_in : Format → List (List ℕ) → List ℕ
head_in Text options = []
head_in Json options = codes "{\"format\":2" ++ list_in Json Other (codes "options") quoted options

abbrev pub report_end : Format → List ℕ
report_end form = one_of form [] (codes "}\n")

-- the report: its head, the blocks, the numbers, the lists, the causes
unfoldable pub text_under : List (List ℕ) → IndexView → Settings → ContentView → List ℕ
text_under options index settings content = let form = settings.format in head_in form options
    ++ string_in form Other (codes "architecture") index.arch
    ++ list_in form Tall (codes "report") (block_in index settings) content.blocks
    ++ flat_map (counted_in form) (numbers_of settings.background (summary_with index content.counts))
    ++ flat_map (amended_in form) content.lists
    ++ causes_in form index content.causes
    ++ report_end form

-- what is written of the asked places, since these packages were broken, where an earlier index is read
abbrev pub written_told : Settings → IndexView → List ℕ → List ToldView → Option (List BrokenView) → List ℕ
written_told settings index asked told before =
    text_under (options_of settings (is_some before)) index settings (content_of settings index asked told before)

-- of the verdicts alone
abbrev pub written_report : Settings → IndexView → List ℕ → List ToldView → List ℕ
written_report settings index asked verdicts = written_told settings index asked verdicts None
