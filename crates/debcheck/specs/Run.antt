-- What a run answers and writes, and what its report tells of packages.
use Rattle.std.specs.Prelude.{◌≡◌, ◌⊎◌, ℕ, Bool, false, true, not, ◌&&◌, ◌||◌, List, [], Option, None, Some, if◌then◌else◌, slice_index_or, ◌≢◌, ◌≤◌, Result, Ok, Err, IfErr, IfOk, IfSome, OnOk, is_some, length}
use Rattle.deb_index.specs.Packages.{IndexView}
use Rattle.deb_health.specs.Verdicts.{Blocked, Installable, IsTold, SpeaksOf, told_view, ToldView}
use Rattle.deb_health.specs.declared.told.Cores.{Cores}
use Rattle.deb_health.specs.declared.told.Cores.TheVariants as cores_are
use Rattle.deb_health.specs.declared.told.Told.{Told}
use Rattle.deb_health.specs.declared.told.Wanted.{Wanted}
use Rattle.deb_report.specs.Outcome.{is_shown, asked_places, listed_places}
use Rattle.deb_report.specs.Since.{BrokenView, is_new, broken_of, summary_of}
use Rattle.run_settings.specs.Settings.{Settings, shows_sets, tells_all_causes}
use Rattle.std.specs.Io.KnownBytes.{Appends, Keeps}
use Rattle.deb_index.specs.Reading.{byte_limit, index_of, index_of_both}
use Rattle.work_draw.specs.Checks.{AnswersEach}
use Rattle.deb_index.specs.declared.error.BothError.TheVariants.{Back}
use Rattle.deb_index.specs.declared.error.IndexError.{IndexError}
use Rattle.deb_index.specs.declared.error.IndexError.TheVariants as index_error
use Rattle.deb_input.specs.Inputs.{Input, IsRead, IsTooLong, input, slip_of}
use Rattle.deb_input.specs.declared.fault.RunFault.{RunFault}
use Rattle.deb_input.specs.declared.fault.RunFault.TheVariants.{Read, TooLong, BackgroundRead, BackgroundTooLong, EarlierRead, EarlierTooLong, Index, Background, Earlier, UnknownAsked, Slipped, Memory, Write}
use Rattle.deb_report.specs.declared.summary.Summary.{Summary}
use Rattle.devices.specs.Devices.{AppendsPart}
use Rattle.deb_report.specs.Document.{written_told}

-- all cores where all causes are told, else the first where blocks of broken packages explain; since an earlier index they are shown, whatever is asked for
abbrev pub cores_by : Settings → Bool → Cores
cores_by settings since = if tells_all_causes settings then cores_are.All
    else if settings.explain && (since || is_shown settings.show (Blocked [])) then cores_are.First else cores_are.None

-- what a report tells of packages, since an earlier index or not: sets where blocks explain and packages that can be installed have one
abbrev pub wanted_by : Settings → Bool → Wanted
wanted_by settings since = record { sets = shows_sets settings && not since; cores = cores_by settings since }

-- what it tells of that of the package at a place: no core where it is not newly broken
abbrev pub wanted_at : Wanted → IndexView → Option (List BrokenView) → ℕ → Wanted
wanted_at wanted index None place = wanted
wanted_at wanted index (Some before) place = record { sets = wanted.sets; cores = if is_new index before place then wanted.cores else cores_are.None }

-- whether packages can be installed, and nothing else
abbrev pub statuses : Wanted
statuses = record { sets = false; cores = cores_are.None }

-- what is found of the package at a place is what is told of it, and speaks of what the index has
abbrev pub IsToldAt : Wanted → IndexView → Option (List BrokenView) → ℕ → Told → Type 0
IsToldAt wanted index before place told = IsTold (wanted_at wanted index before place) index place (told_view told) × SpeaksOf index (told_view told)

-- the same where marks, by place, are looked up first: of a marked one, that it can be installed
abbrev pub IsFoundAt : List Bool → Wanted → IndexView → Option (List BrokenView) → ℕ → Told → Type 0
IsFoundAt marks wanted index before place told =
    ((slice_index_or marks place false ≡ true) × (told_view told ≡ Installable)) ⊎ IsToldAt wanted index before place told

-- ---- the report

-- these places are asked of an index, and a strict run finds no fault in that
pub record IsAsked (settings : Settings) (index : IndexView) (asked : List ℕ) : Type 0 where
  pub are_asked : asked_places index settings.only ≡ Ok asked
  pub no_slip : slip_of settings index asked ≡ None

-- the report on an index, with its numbers, since these packages were broken, where an earlier index is read: what is written of asked places and of what
-- is told of each, and what is counted
pub record IsReportOn (before : Option (List BrokenView)) (settings : Settings) (index : IndexView) (output : List ℕ) (summary : Summary) : Type 0 where
  pub asked : List ℕ
  pub told : List ToldView
  pub is_asked : IsAsked settings index asked
  pub are_told : AnswersEach (λ place. IsTold (wanted_at (wanted_by settings (is_some before)) index before place) index place) asked told
  pub is_output : output ≡ written_told settings index asked told before
  pub is_summary : summary ≡ summary_of index asked told before

-- a text and the background behind it are within the limit, and have an index, with this property; a background that is not asked for has no bytes
pub record HasIndex (settings : Settings) (text background : List ℕ) (P : IndexView → Type 0) : Type 0 where
  pub index : IndexView
  pub within : length text ≤ byte_limit
  pub background_within : length background ≤ byte_limit
  pub no_background : settings.background ≡ false → background ≡ []
  pub is_index : index_of_both text background settings.arch settings.essential ≡ Ok index
  pub holds : P index

-- these are the broken packages of an earlier index, of those that are asked in it
pub record WereBroken (settings : Settings) (before : List BrokenView) (index : IndexView) : Type 0 where
  pub told : List ToldView
  pub are_told : AnswersEach (IsTold statuses index) (listed_places index settings.only) told
  pub are_broken : before ≡ broken_of index (listed_places index settings.only) told

-- what is known from before: the broken packages of an earlier text, where there is one
abbrev pub IsBefore : Settings → Option (List ℕ) → List ℕ → Option (List BrokenView) → Type 0
IsBefore settings None background before = before ≡ None
IsBefore settings (Some earlier) background before = (broken : List BrokenView) × (before ≡ Some broken)
    × HasIndex settings earlier background (WereBroken settings broken)

-- the report on a text and on the background behind it, with its numbers; since an earlier text, where there is one, with the same background behind it
pub record IsReport (settings : Settings) (earlier : Option (List ℕ)) (text background output : List ℕ) (summary : Summary) : Type 0 where
  pub before : Option (List BrokenView)
  pub was : IsBefore settings earlier background before
  pub has : HasIndex settings text background (λ index. IsReportOn before settings index output summary)

-- ---- what is read

-- what is read behind the index: the background, where one is asked for; else no bytes, and no read fails
abbrev pub behind : Settings → Input → Input
behind settings background = if settings.background then background else input (Some []) false

-- both were read
abbrev pub AreRead : Settings → Input → Input → Type 0
AreRead settings text background = IsRead text × IsRead (behind settings background)

-- where the bytes of both are told, they have this property
abbrev pub IfTold : Settings → Input → Input → (List ℕ → List ℕ → Type 0) → Type 0
IfTold settings text background P = IfSome text.text (λ bytes. IfSome (behind settings background).text (P bytes))

-- both were read, and are accepted as an index with this property
abbrev pub IfIndexed : Settings → Input → Input → (IndexView → Type 0) → Type 0
IfIndexed settings text background P = AreRead settings text background
    × IfTold settings text background (λ bytes more. (index : IndexView) × (index_of_both bytes more settings.arch settings.essential ≡ Ok index) × P index)

-- both were read, as this index
abbrev pub ReadsAs : Settings → Input → Input → IndexView → Type 0
ReadsAs settings text background index = AreRead settings text background
    × IfTold settings text background (λ bytes more. index_of_both bytes more settings.arch settings.essential ≡ Ok index)

-- where the bytes of all are told, and of an earlier index, where there is one, they have this property
abbrev pub IfAllTold : Settings → Option Input → Input → Input → (Option (List ℕ) → List ℕ → List ℕ → Type 0) → Type 0
IfAllTold settings None text background P = IfTold settings text background (P None)
IfAllTold settings (Some earlier) text background P = IfSome earlier.text (λ was. IfTold settings text background (P (Some was)))

-- ---- what is written

-- what is known of a device that was written to: what it held at the call, where it tells that, and what it holds now, whether a call of it has failed,
-- whether all is flushed, and whether a call failed because nobody reads any more what is written
pub record Written : Type 0 where
  pub held : Option (List ℕ)
  pub now : Option (List ℕ)
  pub failed : Bool
  pub flushed : Bool
  pub abandoned : Bool

abbrev pub written : Option (List ℕ) → Option (List ℕ) → Bool → Bool → Bool → Written
written held now failed flushed abandoned = record { held = held; now = now; failed = failed; flushed = flushed; abandoned = abandoned }

-- where the texts are told, their report was added
abbrev pub WritesReport : Settings → Option Input → Input → Input → Written → Summary → Type 0
WritesReport settings earlier text background writer summary = IfAllTold settings earlier text background
    (λ was bytes more. (output : List ℕ) × IsReport settings was bytes more output summary × Appends writer.held writer.now output)

-- where the texts are told, the front of their report was added
abbrev pub WritesFront : Settings → Option Input → Input → Input → Written → Type 0
WritesFront settings earlier text background writer = IfAllTold settings earlier text background
    (λ was bytes more. (output : List ℕ) × (summary : Summary) × IsReport settings was bytes more output summary × AppendsPart writer.held writer.now output)

-- ---- why there is no report

-- why what stands behind the index is not read
abbrev pub FailsToReadBehind : Input → RunFault → Type 0
FailsToReadBehind source BackgroundRead = source.failed ≡ true
FailsToReadBehind source BackgroundTooLong = IsTooLong source
FailsToReadBehind source Memory = source.failed ≡ false
FailsToReadBehind source _ = ⊥

-- why there is no index, in the order in which one cause goes before another: a read of the text failed, or it is too long;
-- it was read, and a read of the background failed, or that is too long; both were read,
-- and the text has a fault; or it has none, and the background that was asked for has one. Where memory was wanted, no read had failed
abbrev pub FailsToIndex : Settings → Input → Input → RunFault → Type 0
FailsToIndex settings text background Read = text.failed ≡ true
FailsToIndex settings text background TooLong = IsTooLong text
FailsToIndex settings text background BackgroundRead = IsRead text × ((behind settings background).failed ≡ true)
FailsToIndex settings text background BackgroundTooLong = IsRead text × IsTooLong (behind settings background)
FailsToIndex settings text background (Index fault) = (fault ≢ index_error.Memory) × AreRead settings text background
    × IfSome text.text (λ bytes. index_of bytes settings.arch settings.essential ≡ Err fault)
FailsToIndex settings text background (Background fault) = (settings.background ≡ true) × (fault ≢ index_error.Memory) × AreRead settings text background
    × IfTold settings text background (λ bytes more. index_of_both bytes more settings.arch settings.essential ≡ Err (Back fault))
FailsToIndex settings text background Memory = (text.failed ≡ false) × ((behind settings background).failed ≡ false)
FailsToIndex settings text background _ = ⊥

-- the fault is one of the background
abbrev pub is_of_background : RunFault → Bool
is_of_background BackgroundRead = true
is_of_background BackgroundTooLong = true
is_of_background (Background fault) = true
is_of_background _ = false

-- why there is no report on an index: an asked name is unknown; or all are known, and a strict run has a fault; or memory was wanted
abbrev pub FailsToReport : Settings → IndexView → RunFault → Type 0
FailsToReport settings index (UnknownAsked name) = asked_places index settings.only ≡ Err name.items
FailsToReport settings index (Slipped slip) = (asked : List ℕ) × (asked_places index settings.only ≡ Ok asked) × (slip_of settings index asked ≡ Some slip)
FailsToReport settings index Memory = Unit {0}
FailsToReport settings index _ = ⊥

-- each asked name is one of a package of the foreground, and a strict run has no fault
abbrev pub HasAsked : Settings → IndexView → Type 0
HasAsked settings index = (asked : List ℕ) × IsAsked settings index asked

-- why the report on an index is not written: there is none; or there is, and the writer failed
abbrev pub FailsToWrite : Settings → IndexView → Bool → RunFault → Type 0
FailsToWrite settings index write_failed fault = FailsToReport settings index fault ⊎ ((fault ≡ Write) × (write_failed ≡ true) × HasAsked settings index)

-- why a run on an index and its background fails: there is no index; or there is one, and an asked name is unknown; or all are known, and a strict run
-- has a fault; or it has none, and the writer failed. Where memory was wanted, no read had failed
abbrev pub FailsAlone : Settings → Input → Input → Bool → RunFault → Type 0
FailsAlone settings text background write_failed (UnknownAsked name) = IfIndexed settings text background (λ index. FailsToReport settings index (UnknownAsked name))
FailsAlone settings text background write_failed (Slipped slip) = IfIndexed settings text background (λ index. FailsToReport settings index (Slipped slip))
FailsAlone settings text background write_failed Write = (write_failed ≡ true) × IfIndexed settings text background (HasAsked settings)
FailsAlone settings text background write_failed fault = FailsToIndex settings text background fault

-- the fault that is told of an earlier index, by that of an index
abbrev pub earlier_fault : RunFault → RunFault
earlier_fault Read = EarlierRead
earlier_fault TooLong = EarlierTooLong
earlier_fault (Index fault) = Earlier fault
earlier_fault fault = fault

-- the fault is one of the earlier index
abbrev pub IsOfEarlier : RunFault → Type 0
IsOfEarlier fault = (fault ≡ EarlierRead) ⊎ (fault ≡ EarlierTooLong) ⊎ ((cause : IndexError) × (fault ≡ Earlier cause))

-- why there is no earlier index: for a reason why a text has none
abbrev pub FailsEarlier : Settings → Input → Input → RunFault → Type 0
FailsEarlier settings earlier background fault = (cause : RunFault) × (fault ≡ earlier_fault cause) × FailsToIndex settings earlier background cause

-- why a run fails. The earlier index goes before all else, where there is one: it is none, and nothing of the index was read; or it is one, and the run fails
-- without it
abbrev pub Fails : Settings → Option Input → Input → Input → Bool → RunFault → Type 0
Fails settings None text background write_failed fault = FailsAlone settings text background write_failed fault
Fails settings (Some earlier) text background write_failed fault = ((text.failed ≡ false) × FailsEarlier settings earlier background fault)
    ⊎ (IfIndexed settings earlier background (λ index. Unit {0}) × FailsAlone settings text background write_failed fault)

-- what a failed run leaves written: the front of the report where writing failed, else nothing
abbrev pub Leaves : Settings → Option Input → Input → Input → Written → RunFault → Type 0
Leaves settings earlier text background writer fault = (fault ≢ Write → Keeps writer.held writer.now)
    × (fault ≡ Write → WritesFront settings earlier text background writer)

-- ---- what becomes of a run

-- what becomes of an index once it was read: its report was written and flushed, or there is a reason why not
pub record Tells (before : Option (List BrokenView)) (settings : Settings) (index : IndexView) (writer : Written) (outcome : Result Summary RunFault)
    : Type 0 where
  pub report : IfOk outcome (λ summary. (output : List ℕ) × IsReportOn before settings index output summary × Appends writer.held writer.now output)
  pub flushed : OnOk outcome (writer.flushed ≡ true)
  pub unfailed : OnOk outcome (writer.failed ≡ false)
  pub refused : IfErr outcome (FailsToWrite settings index writer.failed)
  pub kept : IfErr outcome (λ fault. fault ≢ Write → Keeps writer.held writer.now)
  pub front : IfErr outcome (λ fault. fault ≡ Write
      → (output : List ℕ) × (summary : Summary) × IsReportOn before settings index output summary × AppendsPart writer.held writer.now output)

-- a run on an index and its background, and since an earlier index, where there is one: the report was written and flushed, and no device has failed;
-- or there is a reason why not, and this was written until then
pub record RunsOn (settings : Settings) (earlier : Option Input) (text background : Input) (writer : Written) (outcome : Result Summary RunFault)
    : Type 0 where
  pub report : IfOk outcome (WritesReport settings earlier text background writer)
  pub flushed : OnOk outcome (writer.flushed ≡ true)
  pub unfailed : OnOk outcome ((text.failed ≡ false) × (background.failed ≡ false) × IfSome earlier (λ source. source.failed ≡ false)
      × (writer.failed ≡ false))
  pub refused : IfErr outcome (Fails settings earlier text background writer.failed)
  pub left : IfErr outcome (Leaves settings earlier text background writer)
