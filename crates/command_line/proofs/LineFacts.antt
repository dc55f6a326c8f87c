-- From what the parse of the words says to what the command line asks for.
use Rattle.std.proofs.Common.{◌≡◌, ◌∙◌, ◌<◌, ◌≤◌, ◌==◌, ◌&&◌, ◌||◌, ◌⊎◌, ℕ, Bool, List, [], ◌∷◌, Result, Ok, Err, Option, Some, None, IfErr, IfOk, IfSome, IsErrAnd, OnOk, All, ap, ap₂, arith, codes, false, true, if◌then◌else◌, inl, inr, is_some, length, not, option_map, refl, string_bytes, sym, true≢false}
use Rattle.std.specs.List.{list_all, list_any}
use Rattle.std.specs.Str.Parse.{digits_value}
use Rattle.std.specs.Option.{option_map_or}
use Rattle.std.proofs.lemmas.List.Sums.{AllPass-from_list_all}
use Rattle.clap.specs.Words.{App, HasMatchesOf, IsAmong, Row, Text, fault_of, first_of, found_of, is_simple, is_simple_and_free, matches_of, rows_of}
use Rattle.clap.proofs.OnLiterals.{clap_on_literals}
use Rattle.clap.specs.declared.error.kind.ErrorKind.{ErrorKind}
use Rattle.clap.specs.declared.error.kind.ErrorKind.TheVariants as kind
use Rattle.clap.specs.declared.parser.matches.ArgMatches.{ArgMatches}
use Rattle.deb_relation.specs.Relationship.{is_name}
use Rattle.run_settings.specs.declared.config.Config.{Config}
use Rattle.command_line.specs.declared.fault.LineFault.{LineFault}
use Rattle.command_line.specs.declared.fault.LineFault.TheVariants.{Refused, Help, Memory}
use Rattle.run_settings.specs.Settings.{Settings, is_architecture, settings_of, usual_settings}
use Rattle.command_line.specs.Line.{Accepts, IsFaultOf, RefusesLine, RefusesUnless, Request, asked_by, file_in, format_of, has_good_file, has_good_names, has_good_reasons, has_good_since, has_good_values, is_count, is_good_list, is_help, is_version, line_app, line_faults, line_rows, listed_in, names_in, request_of, usual_request, value_of}
use Rattle.command_line.proofs.LineLemmas.{count-least}

-- ---- the program's command

is_simple_line : is_simple line_app ≡ true
unfolding clap_on_literals
is_simple_line = refl

is_free_line : is_simple_and_free line_app ≡ true
unfolding clap_on_literals
is_free_line = refl

pub rows-are : (app : App) (given words : List Text) (m : ArgMatches) → app ≡ line_app → given ≡ words → HasMatchesOf app given m → rows_of (found_of m) ≡ line_rows words
unfolding line_rows
rows-are app given words m is same has = (has (ap is_simple is ∙ is_simple_line)).0 ∙ ap₂ matches_of is same

pub faults-are : (app : App) (given words : List Text) → app ≡ line_app → given ≡ words → fault_of app given ≡ line_faults words
unfolding line_faults
faults-are app given words is same = ap₂ fault_of is same

pub is_free : (app : App) → app ≡ line_app → is_simple_and_free app ≡ true
is_free app is = ap is_simple_and_free is ∙ is_free_line

-- a list that isn't empty, by the test of its length
pub nonempty : (n : ℕ) (b : Bool) → b ≡ (n == 0) → b ≡ false → 0 < n
nonempty n b is some = grind (arith, is, some)

-- ---- what is accepted

no-faults : (faults : List ErrorKind) (good : Bool) → faults ≡ [] → good ≡ true → (length faults == 0 && good) ≡ true
no-faults faults good none fine = rw (none, fine) refl

accepts-one : (words : List Text) (config : Config) → 0 < length words → line_faults words ≡ [] → has_good_values (line_rows words) ≡ true
    → request_of config ≡ asked_by (line_rows words) → Accepts words config
accepts-one [] config some none good request = absurd (omega (arith, some))
accepts-one (word ∷ words) config some none good request = (no-faults (line_faults (word ∷ words)) (has_good_values (line_rows (word ∷ words))) none good, request)

pub accepts : (words : List Text) (rows : List Row) (r : Result Config LineFault) → 0 < length words → line_faults words ≡ [] → rows ≡ line_rows words
    → OnOk r (has_good_values rows ≡ true) → IfOk r (λ config. request_of config ≡ asked_by rows) → IfOk r (Accepts words)
accepts words rows (Ok config) some none are good request = accepts-one words config some none (rw are at good) (rw are at request)
accepts words rows (Err fault) some none are good request = tt

usual-parts : (settings : Settings) (only_file bg since : Option Text) (workers chunk : ℕ) (quiet : Bool) → settings ≡ usual_settings → only_file ≡ None → bg ≡ None
    → since ≡ None → workers ≡ 4 → chunk ≡ 64 → quiet ≡ false
    → record { settings = settings; only_file = only_file; bg = bg; since = since; workers = workers; chunk = chunk; quiet = quiet } ≡ usual_request
usual-parts settings only_file bg since workers chunk quiet is names behind before fours chunks loud = rw (is, names, behind, before, fours, chunks, loud) refl

-- no words, and the usual configuration
pub accepts-none : (words : List Text) (config : Config) → length words ≡ 0 → settings_of config ≡ usual_settings → config.only_file ≡ None → config.bg ≡ None
    → config.since ≡ None → config.workers ≡ 4 → config.chunk ≡ 64 → config.quiet ≡ false → Accepts words config
accepts-none [] config none settings only_file bg since workers chunk quiet =
    usual-parts (settings_of config) _ _ _ _ _ _ settings (ap (option_map string_bytes) only_file) (ap (option_map string_bytes) bg)
    (ap (option_map string_bytes) since) workers chunk quiet
accepts-none (word ∷ words) config none settings only_file bg since workers chunk quiet = absurd (omega (arith, none))

-- ---- what is refused

-- want of memory is told as it is
memory-told : (words : List Text) → RefusesLine words Memory
memory-told [] = refl
memory-told (word ∷ words) = tt

pub refuses-memory : (words : List Text) (r : Result Config LineFault) → IsErrAnd r (λ fault. fault ≡ Memory) → IfErr r (RefusesLine words)
refuses-memory words (Ok config) is = tt
refuses-memory words (Err fault) is = rw is (memory-told words)

bad-values : (faults : List ErrorKind) (good : Bool) → faults ≡ [] → good ≡ false → (list_any (λ k. not (is_help k || is_version k)) faults || (length faults == 0 && not good)) ≡ true
bad-values faults good none bad = rw (none, bad) refl

refuses-one : (words : List Text) (fault : LineFault) → 0 < length words → line_faults words ≡ [] → RefusesUnless (has_good_values (line_rows words)) fault → RefusesLine words fault
refuses-one [] fault some none why = absurd (omega (arith, some))
refuses-one (word ∷ words) (Refused text) some none why = bad-values (line_faults (word ∷ words)) (has_good_values (line_rows (word ∷ words))) none why
refuses-one (word ∷ words) (Help text) some none why = absurd why
refuses-one (word ∷ words) Memory some none why = tt

pub refuses-values : (words : List Text) (rows : List Row) (r : Result Config LineFault) → 0 < length words → line_faults words ≡ [] → rows ≡ line_rows words
    → IfErr r (RefusesUnless (has_good_values rows)) → IfErr r (RefusesLine words)
refuses-values words rows (Ok config) some none are why = tt
refuses-values words rows (Err fault) some none are why = refuses-one words fault some none (rw are at why)

any-among : (p : ErrorKind → Bool) (k : ErrorKind) (ks : List ErrorKind) → IsAmong k ks → p k ≡ true → list_any p ks ≡ true
any-among p k [] among is = absurd among
any-among p k (x ∷ xs) (inl same) is = rw (ap p (sym same) ∙ is) refl
any-among p k (x ∷ xs) (inr among) is = rw (any-among p k xs among is) (go (p x))
  where
    go : (b : Bool) → (b || true) ≡ true
    go true = refl
    go false = refl

front-true : (a b : Bool) → a ≡ true → (a || b) ≡ true
front-true a b is = rw is refl

pub refuses-words : (words : List Text) (k : ErrorKind) (fault : LineFault) → 0 < length words → ((k ≡ kind.OutOfMemory) ⊎ IsAmong k (line_faults words)) → IsFaultOf k fault → RefusesLine words fault
refuses-words [] k fault some why what = absurd (omega (arith, some))
refuses-words (word ∷ words) k (Refused text) some (inl same) what = absurd (what.1 same)
refuses-words (word ∷ words) k (Refused text) some (inr among) what =
    front-true (list_any (λ k. not (is_help k || is_version k)) (line_faults (word ∷ words))) _
    (any-among (λ k. not (is_help k || is_version k)) k (line_faults (word ∷ words)) among (ap not what.0))
refuses-words (word ∷ words) k (Help text) some (inl same) (inl help) = absurd (true≢false (sym help ∙ ap is_help same))
refuses-words (word ∷ words) k (Help text) some (inl same) (inr version) = absurd (true≢false (sym version.0 ∙ ap is_version same))
refuses-words (word ∷ words) k (Help text) some (inr among) (inl help) = inl (any-among is_help k (line_faults (word ∷ words)) among help)
refuses-words (word ∷ words) k (Help text) some (inr among) (inr version) = inr (any-among is_version k (line_faults (word ∷ words)) among version.0, version.1)
refuses-words (word ∷ words) k Memory some why what = tt

-- ---- what an accepted line is good for

both : (a b : Bool) → (a && b) ≡ true → (a ≡ true) × (b ≡ true)
both true b e = (refl, e)
both false b e = absurd (true≢false (sym e))

-- the first three and the fifth of eight that hold
four-of : (a b c d e f g h : Bool) → (a && b && c && d && e && f && g && h) ≡ true → (a ≡ true) × (b ≡ true) × (c ≡ true) × (e ≡ true)
four-of true true true true true f g h is = (refl, refl, refl, refl)
four-of true true true true false f g h is = absurd (true≢false (sym is))
four-of true true true false e f g h is = absurd (true≢false (sym is))
four-of true true false d e f g h is = absurd (true≢false (sym is))
four-of true false c d e f g h is = absurd (true≢false (sym is))
four-of false b c d e f g h is = absurd (true≢false (sym is))

abbrev HasGoodParts : List Row → Type 0
HasGoodParts rows = (is_architecture (value_of (codes "arch") rows) ≡ true) × (is_count 64 (value_of (codes "workers") rows) ≡ true)
    × (is_count 1000000 (value_of (codes "chunk") rows) ≡ true) × (has_good_names rows ≡ true)

good-parts : (rows : List Row) → has_good_values rows ≡ true → HasGoodParts rows
good-parts rows good = four-of (is_architecture (value_of (codes "arch") rows)) (is_count 64 (value_of (codes "workers") rows))
    (is_count 1000000 (value_of (codes "chunk") rows)) (has_good_reasons rows) (has_good_names rows)
    (has_good_file (codes "bg") rows) (has_good_since rows) (is_some (format_of (value_of (codes "format") rows))) good

accepted-parts : (words : List Text) (word : Text) (config : Config) → Accepts (word ∷ words) config → HasGoodParts (line_rows (word ∷ words))
accepted-parts words word config accepted = good-parts (line_rows (word ∷ words)) (both _ _ accepted.0).1

pub arch-good : (words : List Text) (config : Config) → Accepts words config → is_architecture (string_bytes config.arch) ≡ true
arch-good [] config accepted =
    let are : string_bytes config.arch ≡ codes "amd64" = ap (λ (r : Request). r.settings.arch) accepted in
    rw are refl
arch-good (word ∷ words) config accepted =
    let are : string_bytes config.arch ≡ value_of (codes "arch") (line_rows (word ∷ words)) = ap (λ (r : Request). r.settings.arch) accepted.1 in
    rw are (accepted-parts words word config accepted).0

pub workers-within : (words : List Text) (config : Config) → Accepts words config → (0 < config.workers) × (config.workers ≤ 64)
workers-within [] config accepted =
    let are : config.workers ≡ 4 = ap (λ (r : Request). r.workers) accepted in
    (omega (arith, are), omega (arith, are))
workers-within (word ∷ words) config accepted =
    let rows = line_rows (word ∷ words) in
    let within = count-least 64 (value_of (codes "workers") rows) (accepted-parts words word config accepted).1 in
    let are : config.workers ≡ digits_value 10 (value_of (codes "workers") rows) = ap (λ (r : Request). r.workers) accepted.1 in
    (rw are within.1, rw are within.2)

pub chunk-within : (words : List Text) (config : Config) → Accepts words config → (0 < config.chunk) × (config.chunk ≤ 1000000)
chunk-within [] config accepted =
    let are : config.chunk ≡ 64 = ap (λ (r : Request). r.chunk) accepted in
    (omega (arith, are), omega (arith, are))
chunk-within (word ∷ words) config accepted =
    let rows = line_rows (word ∷ words) in
    let within = count-least 1000000 (value_of (codes "chunk") rows) (accepted-parts words word config accepted).2 in
    let are : config.chunk ≡ digits_value 10 (value_of (codes "chunk") rows) = ap (λ (r : Request). r.chunk) accepted.1 in
    (rw are within.1, rw are within.2)

listed-good : (text : Text) (file : Option Text) → option_map_or (λ name. not (length name == 0)) file (list_all is_name (names_in text)) ≡ true
    → IfSome (if is_some file then None else Some (names_in text)) (All (λ name. is_name name ≡ true))
listed-good text None good = AllPass-from_list_all is_name (names_in text) good
listed-good text (Some file) good = tt

names-good : (list : Option Text) → option_map_or is_good_list list true ≡ true → IfSome (listed_in list) (All (λ name. is_name name ≡ true))
names-good None good = tt
names-good (Some text) good = listed-good text (file_in text) good

pub only-good : (words : List Text) (config : Config) → Accepts words config → IfSome (settings_of config).only (All (λ name. is_name name ≡ true))
only-good [] config accepted =
    let are : (settings_of config).only ≡ None = ap (λ (r : Request). r.settings.only) accepted in
    rw are tt
only-good (word ∷ words) config accepted =
    let list = first_of (codes "checkonly") (line_rows (word ∷ words)) in
    let are : (settings_of config).only ≡ listed_in list = ap (λ (r : Request). r.settings.only) accepted.1 in
    rw are (names-good list (accepted-parts words word config accepted).3)
