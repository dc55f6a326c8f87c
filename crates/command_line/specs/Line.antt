-- What a command line asks for.
use Rattle.std.specs.Prelude.{◌≡◌, ◌≢◌, ◌⊎◌, ℕ, ◌==◌, nat_le, Bool, true, false, not, ◌&&◌, ◌||◌}
use Rattle.std.specs.Prelude.{List, [], ◌∷◌, length, Some, None, codes, if◌then◌else◌, is_some, map, ◌++◌, MatchResult, Option, Result, string_bytes}
use Rattle.std.specs.Char.{is_ascii_digit}
use Rattle.std.specs.List.{list_all, list_any, slice_split}
use Rattle.std.specs.Option.{option_map, option_map_or, unwrap_or}
use Rattle.std.specs.Str.{bytes_eq}
use Rattle.std.specs.Str.Parse.{digits_value}
use Rattle.clap.specs.Lexer.{strip_byte}
use Rattle.clap.specs.Words.{App, Row, Rule, Text, fault_of, first_of, found_of, matches_of, new_app, new_rule, rows_of}
use Rattle.clap.specs.declared.parser.matches.ArgMatches.{ArgMatches}
use Rattle.clap.specs.declared.builder.action.ArgAction.TheVariants as action
use Rattle.clap.specs.declared.error.kind.ErrorKind.{ErrorKind}
use Rattle.clap.specs.declared.error.kind.ErrorKind.TheVariants as kind
use Rattle.deb_relation.specs.Relationship.{is_name}
use Rattle.run_settings.specs.declared.config.Config.{Config}
use Rattle.run_settings.specs.declared.config.Format.{Format}
use Rattle.run_settings.specs.declared.config.Format.TheVariants as form
use Rattle.command_line.specs.declared.line.TheConstants.{VERSION_LINE}
use Rattle.command_line.specs.declared.checked.Values.{Values}
use Rattle.command_line.specs.declared.options.LineOption.{LineOption}
use Rattle.run_settings.specs.declared.config.Show.{Show}
use Rattle.run_settings.specs.declared.config.Show.TheVariants.{All, Failures, Successes}
use Rattle.command_line.specs.declared.fault.LineFault.{LineFault}
use Rattle.command_line.specs.declared.fault.LineFault.TheVariants.{Refused, Help, Memory}
use Rattle.run_settings.specs.Settings.{Settings, is_architecture, settings_of, usual_settings}

-- all that a configuration says
pub record Request : Type 0 where
  pub settings : Settings
  pub only_file : Option Text
  pub bg : Option Text
  pub since : Option Text
  pub workers : ℕ
  pub chunk : ℕ
  pub quiet : Bool

abbrev pub request_of : Config → Request
request_of config = record {
  settings = settings_of config;
  only_file = option_map string_bytes config.only_file;
  bg = option_map string_bytes config.bg;
  since = option_map string_bytes config.since;
  workers = config.workers;
  chunk = config.chunk;
  quiet = config.quiet;
}

-- ---- the options

-- an option with a value
abbrev pub value_rule : Text → Rule
value_rule name = record (new_rule name) { long = Some name; action = Some action.Set; value_names = 1 }

-- an option without one
abbrev pub flag_rule : Text → Rule
flag_rule name = record (new_rule name) { long = Some name; action = Some action.SetTrue }

-- `-h` is its short name
abbrev pub help_rule : Rule
help_rule = record (new_rule (codes "help")) { long = Some (codes "help"); short = Some 104; action = Some action.Help }

-- and `-V` this one's
abbrev pub version_rule : Rule
version_rule = record (new_rule (codes "version")) { long = Some (codes "version"); short = Some 86; action = Some action.Version }

-- the architecture has to be said, the report's form and the numbers have usual values
abbrev pub value_rules : List Rule
value_rules = record (value_rule (codes "arch")) { required = true }
    ∷ value_rule (codes "bg")
    ∷ value_rule (codes "since")
    ∷ value_rule (codes "checkonly")
    ∷ record (value_rule (codes "format")) { defaults = codes "text" ∷ [] }
    ∷ record (value_rule (codes "workers")) { defaults = codes "4" ∷ [] }
    ∷ record (value_rule (codes "chunk")) { defaults = codes "64" ∷ [] } ∷ []

abbrev pub other_rules : List Rule
other_rules = flag_rule (codes "explain") ∷ flag_rule (codes "failures") ∷ flag_rule (codes "successes") ∷ flag_rule (codes "causes")
    ∷ flag_rule (codes "all-reasons")
    ∷ flag_rule (codes "why") ∷ flag_rule (codes "ignore-essential") ∷ flag_rule (codes "strict") ∷ flag_rule (codes "quiet") ∷ help_rule ∷ version_rule ∷ []

-- what an option of the table says of itself
abbrev pub option_rule : LineOption → Rule
option_rule option = record (new_rule option.name.now) {
  long = Some option.name.now;
  short = option.short;
  action = Some option.action;
  value_names = length option.value.now;
  required = option.required;
  defaults = map (λ text. text.now) option.usual.now;
}

-- the program's command with these options, whose words come without the program's name
abbrev pub app_with : List Rule → App
app_with rules = let new = new_app (codes "debcheck") in
    record new { top = record new.top { rules = rules; no_binary_name = true; disable_help_flag = true } }

-- each option has a long name; help and the version have a short one, too
abbrev pub line_app : App
line_app = app_with (value_rules ++ other_rules)

-- ---- the values

-- decimal digits of a number from 1 to this one
abbrev pub is_count : ℕ → List ℕ → Bool
is_count most text = list_all is_ascii_digit text && not (length text == 0)
    && nat_le 1 (digits_value 10 text) && nat_le (digits_value 10 text) most

-- the names of a list stand between its commas
abbrev pub names_in : List ℕ → List (List ℕ)
names_in text = slice_split (λ b. b == 44) text

-- the name of a file stands behind an @
abbrev pub file_in : List ℕ → Option Text
file_in text = strip_byte 64 text

-- of the names that are asked, or of a file that has them: the names
abbrev pub listed_in : Option Text → Option (List (List ℕ))
listed_in None = None
listed_in (Some text) = if is_some (file_in text) then None else Some (names_in text)

-- and the file
abbrev pub file_named : Option Text → Option Text
file_named None = None
file_named (Some text) = file_in text

-- the options that are given in what was matched
abbrev pub rows_in : ArgMatches → List Row
rows_in matches = rows_of (found_of matches)

-- the value of an option that has one
abbrev pub value_of : Text → List Row → List ℕ
value_of name rows = unwrap_or (first_of name rows) []

abbrev pub is_set : Text → List Row → Bool
is_set name rows = option_map_or (λ value. bytes_eq value (codes "true")) (first_of name rows) false

-- each name is one of a package, or the file has a name
abbrev pub is_good_list : List ℕ → Bool
is_good_list text = option_map_or (λ file. not (length file == 0)) (file_in text) (list_all is_name (names_in text))

-- so it is of the names that are asked, where some are
abbrev pub has_good_names : List Row → Bool
has_good_names rows = option_map_or is_good_list (first_of (codes "checkonly") rows) true

-- the file that an option names, where it does, has a name
abbrev pub has_good_file : Text → List Row → Bool
has_good_file option rows = option_map_or (λ file. not (length file == 0)) (first_of option rows) true

-- so has that of the earlier index, and the packages that can be installed are not asked for beside it
abbrev pub has_good_since : List Row → Bool
has_good_since rows = has_good_file (codes "since") rows && not (is_some (first_of (codes "since") rows) && is_set (codes "successes") rows)

-- what is told of reasons beside the first ones, is told of packages that cannot be installed, so those that can be are not asked for alone beside it
abbrev pub tells_more_reasons : List Row → Bool
tells_more_reasons rows = is_set (codes "all-reasons") rows || is_set (codes "why") rows

abbrev pub has_good_reasons : List Row → Bool
has_good_reasons rows = not (tells_more_reasons rows && is_set (codes "successes") rows && not (is_set (codes "failures") rows))

-- the form of the report that a word names
abbrev pub format_of : List ℕ → Option Format
format_of text = if bytes_eq text (codes "text") then Some form.Text else (if bytes_eq text (codes "json") then Some form.Json else None)

-- the values are of their forms
abbrev pub has_good_values : List Row → Bool
has_good_values rows = is_architecture (value_of (codes "arch") rows)
    && is_count 64 (value_of (codes "workers") rows)
    && is_count 1000000 (value_of (codes "chunk") rows)
    && has_good_reasons rows
    && has_good_names rows
    && has_good_file (codes "bg") rows
    && has_good_since rows
    && is_some (format_of (value_of (codes "format") rows))

-- which packages are shown, by whether failures and successes are asked for: all for both or neither
abbrev pub show_of : Bool → Bool → Show
show_of true false = Failures
show_of false true = Successes
show_of _ _ = All

-- what the options ask for
abbrev pub asked_by : List Row → Request
asked_by rows = record {
  settings = record {
    arch = value_of (codes "arch") rows;
    explain = is_set (codes "explain") rows || tells_more_reasons rows;
    show = show_of (is_set (codes "failures") rows) (is_set (codes "successes") rows);
    essential = not (is_set (codes "ignore-essential") rows);
    only = listed_in (first_of (codes "checkonly") rows);
    background = is_some (first_of (codes "bg") rows);
    strict = is_set (codes "strict") rows || is_some (first_of (codes "since") rows);
    causes = is_set (codes "causes") rows;
    all_reasons = is_set (codes "all-reasons") rows;
    why = is_set (codes "why") rows;
    format = unwrap_or (format_of (value_of (codes "format") rows)) form.Text;
  };
  only_file = file_named (first_of (codes "checkonly") rows);
  bg = first_of (codes "bg") rows;
  since = first_of (codes "since") rows;
  workers = digits_value 10 (value_of (codes "workers") rows);
  chunk = digits_value 10 (value_of (codes "chunk") rows);
  quiet = is_set (codes "quiet") rows;
}

-- the values of the options are these
pub record AreValuesOf (rows : List Row) (values : Values) : Type 0 where
  pub arch : values.arch.now ≡ value_of (codes "arch") rows
  pub workers : values.workers ≡ digits_value 10 (value_of (codes "workers") rows)
  pub chunk : values.chunk ≡ digits_value 10 (value_of (codes "chunk") rows)
  pub show : values.show ≡ show_of (is_set (codes "failures") rows) (is_set (codes "successes") rows)
  pub asked : option_map (λ text. text.now) values.asked ≡ first_of (codes "checkonly") rows
  pub bg : option_map (λ text. text.now) values.bg ≡ first_of (codes "bg") rows
  pub since : option_map (λ text. text.now) values.since ≡ first_of (codes "since") rows
  pub format : values.format ≡ unwrap_or (format_of (value_of (codes "format") rows)) form.Text

-- ---- the line

-- the request where nothing is said
abbrev pub usual_request : Request
usual_request = record { settings = usual_settings; only_file = None; bg = None; since = None; workers = 4; chunk = 64; quiet = false }

-- the options that the words give, by the conventions of long options and of short ones
unfoldable pub line_rows : List Text → List Row
line_rows words = matches_of line_app words

-- what is wrong with the words, by these conventions; to ask for help or the version counts as wrong
unfoldable pub line_faults : List Text → List ErrorKind
line_faults words = fault_of line_app words

abbrev pub is_help : ErrorKind → Bool
is_help kind.DisplayHelp = true
is_help _ = false

abbrev pub is_version : ErrorKind → Bool
is_version kind.DisplayVersion = true
is_version _ = false

abbrev pub asks_help : List Text → Bool
asks_help words = list_any is_help (line_faults words)

abbrev pub asks_version : List Text → Bool
asks_version words = list_any is_version (line_faults words)

-- the name of the program and its version
abbrev pub version_line : List ℕ
version_line = VERSION_LINE.now

-- the words are options with values of their forms
abbrev pub is_accepted : List Text → Bool
is_accepted words = length (line_faults words) == 0 && has_good_values (line_rows words)

-- a word is wrong, or a value isn't of its form
abbrev pub is_refused : List Text → Bool
is_refused words = list_any (λ k. not (is_help k || is_version k)) (line_faults words)
    || (length (line_faults words) == 0 && not (has_good_values (line_rows words)))

-- the configuration is what the words ask for; no words ask for the usual one
abbrev pub Accepts : List Text → Config → Type 0
Accepts [] config = request_of config ≡ usual_request
Accepts (word ∷ words) config = (is_accepted (word ∷ words) ≡ true) × (request_of config ≡ asked_by (line_rows (word ∷ words)))

-- why the words give no configuration. A text for the output is that of help, or it is the version's line
abbrev pub RefusesLine : List Text → LineFault → Type 0
RefusesLine [] fault = fault ≡ Memory
RefusesLine (word ∷ words) (Refused text) = is_refused (word ∷ words) ≡ true
RefusesLine (word ∷ words) (Help text) = (asks_help (word ∷ words) ≡ true) ⊎ ((asks_version (word ∷ words) ≡ true) × (string_bytes text ≡ version_line))
RefusesLine (word ∷ words) Memory = Unit {0}

-- what is read of the options where a test of them holds; it is refused where the test fails
abbrev pub IsReadIf : {T E : Type 0} → Bool → Result T E → (T → Type 0) → Type 0
IsReadIf good read Is = MatchResult read (λ value. (good ≡ true) × Is value) (λ _. good ≡ false)

-- a refusal of a value, and no text for the output
abbrev pub IsRefusal : LineFault → Type 0
IsRefusal (Refused text) = Unit {0}
IsRefusal (Help text) = ⊥
IsRefusal Memory = ⊥

-- a value is refused only where the test fails
abbrev pub RefusesUnless : Bool → LineFault → Type 0
RefusesUnless good (Refused text) = good ≡ false
RefusesUnless good (Help text) = ⊥
RefusesUnless good Memory = Unit {0}

-- what an error of this kind comes to
abbrev pub IsFaultOf : ErrorKind → LineFault → Type 0
IsFaultOf k (Refused text) = ((is_help k || is_version k) ≡ false) × (k ≢ kind.OutOfMemory)
IsFaultOf k (Help text) = (is_help k ≡ true) ⊎ ((is_version k ≡ true) × (string_bytes text ≡ version_line))
IsFaultOf k Memory = k ≡ kind.OutOfMemory

-- the exit status where there is no configuration
abbrev pub line_status_of : LineFault → ℕ
line_status_of (Refused text) = 64
line_status_of (Help text) = 0
line_status_of Memory = 69
