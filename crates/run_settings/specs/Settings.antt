-- What a report depends on.
use Rattle.std.specs.Prelude.{ℕ, ◌==◌, Bool, false, true, not, ◌&&◌, ◌||◌, List, []}
use Rattle.std.specs.Prelude.{◌∷◌, ◌++◌, Option, None, codes, if◌then◌else◌, is_some, length, map, string_bytes}
use Rattle.std.specs.Char.{is_ascii_alphanumeric}
use Rattle.std.specs.List.{list_all}
use Rattle.std.specs.Option.{option_map}
use Rattle.std.specs.Str.{bytes_eq}
use Rattle.run_settings.specs.declared.config.Config.{Config}
use Rattle.run_settings.specs.declared.config.Format.{Format}
use Rattle.run_settings.specs.declared.config.Format.TheVariants.{Text}
use Rattle.run_settings.specs.declared.config.Show.{Show}
use Rattle.run_settings.specs.declared.config.Show.TheVariants.{All, Failures, Successes}

-- what a report depends on: the architecture, what is shown, whether names may be essential, the names that are asked, whether a background is read,
-- whether an index that asks for nothing has no report, whether causes are told, whether the cores of all causes are, whether a core is told as it is walked,
-- and the report's form;
-- not how the work is dealt out, which files the background and an earlier index are, or whether a run tells how far it has come
pub record Settings : Type 0 where
  pub arch : List ℕ
  pub explain : Bool
  pub show : Show
  pub essential : Bool
  pub only : Option (List (List ℕ))
  pub background : Bool
  pub strict : Bool
  pub causes : Bool
  pub all_reasons : Bool
  pub why : Bool
  pub format : Format

-- whether packages that can be installed have a block
abbrev pub shows_installable : Show → Bool
shows_installable All = true
shows_installable Failures = false
shows_installable Successes = true

-- the settings that a report depends on; one since an earlier index is always strict
abbrev pub settings_of : Config → Settings
settings_of config = record {
  arch = string_bytes config.arch;
  explain = config.explain;
  show = config.show;
  essential = config.essential;
  only = option_map (λ names. map (λ name. name.items) names.items) config.only;
  background = is_some config.bg;
  strict = config.strict || is_some config.since;
  causes = config.causes;
  all_reasons = config.all_reasons;
  why = config.why;
  format = config.format;
}

-- whether some set that was found may be told: blocks explain, and packages that can be installed have one
abbrev pub shows_sets : Settings → Bool
shows_sets settings = settings.explain && shows_installable settings.show

-- whether all causes of a package are told
abbrev pub tells_all_causes : Settings → Bool
tells_all_causes settings = settings.causes || settings.all_reasons

-- a word, where it is said
abbrev pub word_if : Bool → List ℕ → List (List ℕ)
word_if said word = if said then word ∷ [] else []

-- the word that says which packages have a block, where they are not all
abbrev pub show_words : Show → List (List ℕ)
show_words All = []
show_words Failures = codes "failures" ∷ []
show_words Successes = codes "successes" ∷ []

-- the words of the command line that say of what packages a report tells, and what, in this order; it may be one since an earlier index
unfoldable pub options_of : Settings → Bool → List (List ℕ)
options_of settings since = word_if settings.explain (codes "explain")
    ++ show_words settings.show
    ++ word_if (not settings.essential) (codes "ignore-essential")
    ++ word_if (is_some settings.only) (codes "checkonly")
    ++ word_if settings.background (codes "bg")
    ++ word_if since (codes "since")
    ++ word_if settings.causes (codes "causes")
    ++ word_if settings.all_reasons (codes "all-reasons")
    ++ word_if settings.why (codes "why")

-- the settings where nothing is said
abbrev pub usual_settings : Settings
usual_settings = record {
  arch = codes "amd64";
  explain = true;
  show = All;
  essential = true;
  only = None;
  background = false;
  strict = false;
  causes = false;
  all_reasons = false;
  why = false;
  format = Text;
}

-- ---- architectures

-- the bytes of an architecture
abbrev pub is_architecture_byte : ℕ → Bool
is_architecture_byte b = is_ascii_alphanumeric b || b == 45

-- what is no architecture, though its bytes may be: the empty text, and the words for all and for any of them
abbrev pub is_excluded : List ℕ → Bool
is_excluded text = length text == 0 || bytes_eq text (codes "all") || bytes_eq text (codes "any")

-- an architecture is made of letters, digits and `-`, and neither `all` nor `any` is one
abbrev pub is_architecture : List ℕ → Bool
is_architecture text = not (is_excluded text) && list_all is_architecture_byte text
