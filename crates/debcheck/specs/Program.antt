-- What a program comes to, from its words to its exit status.
use Rattle.std.specs.Prelude.{◌≡◌, ◌⊎◌, ℕ, Bool, false, true, List, Option, Some, None, Result, Ok, Err, IfSome, option_map, string_bytes}
use Rattle.std.specs.Io.KnownBytes.{Appends}
use Rattle.run_settings.specs.declared.config.Config.{Config}
use Rattle.deb_report.specs.declared.summary.Summary.{Summary}
use Rattle.run_settings.specs.Settings.{Settings, settings_of}
use Rattle.deb_input.specs.declared.fault.RunFault.{RunFault}
use Rattle.deb_input.specs.declared.fault.RunFault.TheVariants as run_fault
use Rattle.command_line.specs.declared.fault.LineFault.{LineFault}
use Rattle.command_line.specs.declared.fault.LineFault.TheVariants.{Refused, Help, Memory}
use Rattle.devices.specs.Devices.{AppendsPart, IsHeld, IsUnopened, Stands, unknown}
use Rattle.deb_input.specs.Faults.{fault_line, told_line}
use Rattle.debcheck.specs.Statuses.{status_of}
use Rattle.command_line.specs.Line.{Accepts, RefusesLine}
use Rattle.deb_input.specs.Names.{FailsToName, ReadsNames}
use Rattle.deb_input.specs.Inputs.{Input}
use Rattle.debcheck.specs.Run.{RunsOn, Written}

-- ---- files

-- a word, or a name, is its bytes
abbrev pub Text : Type 0
Text = List ℕ

-- what is known of what stands under names
abbrev pub Named : Type 0
Named = Text → Stands

-- the background is what stands under the name of the words, where they name one
abbrev pub IsNamed : Named → Option Text → Input → Type 0
IsNamed files None background = Unit {0}
IsNamed files (Some name) background = IsHeld (files name) background.text

-- the earlier index is what stands under the name of the words; without a name there is none
abbrev pub IsEarlier : Named → Option Text → Option Input → Type 0
IsEarlier files None earlier = earlier ≡ None
IsEarlier files (Some name) earlier = (source : Input) × (earlier ≡ Some source) × IsHeld (files name) source.text

-- a read of what stands under the name may fail
abbrev pub MayFail : Named → Option Text → Type 0
MayFail files name = IfSome name (λ name. (files name).may_fail ≡ true)

-- ---- what is written

-- a text was added and flushed
abbrev pub Adds : Written → List ℕ → Type 0
Adds device text = Appends device.held device.now text × (device.flushed ≡ true)

-- the device failed, and a front of a text was added
abbrev pub AddsFront : Written → List ℕ → Type 0
AddsFront device text = AppendsPart device.held device.now text × (device.failed ≡ true)

-- a text was added, or its front where the device failed
abbrev pub Tells : Written → List ℕ → Type 0
Tells device text = Adds device text ⊎ AddsFront device text

-- the line of a fault was added, or that of want of memory
unfoldable pub TellsFault : Written → RunFault → Type 0
TellsFault device fault = (own : Bool) × Tells device (told_line own fault)

-- no line is told of a failed write where nobody reads any more what is written
abbrev pub is_silent : Bool → RunFault → Bool
is_silent abandoned run_fault.Write = abandoned
is_silent abandoned fault = false

-- nothing was added, or the line of a fault
abbrev pub TellsUnless : Bool → Written → RunFault → Type 0
TellsUnless true device fault = device.now ≡ device.held
TellsUnless false device fault = TellsFault device fault

-- what is told of a run: nothing where there is a report, or where nobody reads it any more; else the line of its fault
unfoldable pub TellsOutcome : Bool → Written → Result Summary RunFault → Type 0
TellsOutcome abandoned errors (Ok summary) = errors.now ≡ errors.held
TellsOutcome abandoned errors (Err fault) = TellsUnless (is_silent abandoned fault) errors fault

-- ---- the words

-- what the words after the program's name ask for, where there are such
unfoldable pub Asks : Result (List Text) LineFault → Result Config LineFault → Type 0
Asks (Ok words) (Ok config) = Accepts words config
Asks (Ok words) (Err fault) = RefusesLine words fault
Asks (Err fault) line = line ≡ Err fault

-- what a line without a configuration comes to: help and the version go to the output, and where it fails, that is told as of a report;
-- all else goes to the errors
unfoldable pub Refuses : LineFault → Written → Written → ℕ → Type 0
Refuses (Help text) output errors status =
    ((status ≡ 0) × Adds output (string_bytes text) × (errors.now ≡ errors.held))
    ⊎ ((status ≡ 68) × AddsFront output (string_bytes text) × TellsUnless output.abandoned errors run_fault.Write)
Refuses (Refused text) output errors status = (status ≡ 64) × (output.now ≡ output.held) × Tells errors (string_bytes text)
Refuses Memory output errors status = (status ≡ 69) × (output.now ≡ output.held) × Tells errors (fault_line run_fault.Memory)

-- ---- the run

-- the file that is named was not opened, since nothing can be opened there, which this fault tells, or memory was wanted: nothing was read and nothing written
abbrev pub IsUnbegun : Named → Option Text → RunFault → Input → Option (List ℕ) → Written → RunFault → Type 0
IsUnbegun files None unopened text rest output fault = ⊥
IsUnbegun files (Some name) unopened text rest output fault = (text.failed ≡ false) × (rest ≡ text.text) × (output.now ≡ output.held)
    × (((fault ≡ unopened) × IsUnopened (files name)) ⊎ (fault ≡ run_fault.Memory))

-- a run on the text, on the background, and on the earlier index under the name, where there is one, which is opened before anything is read.
-- A failed read is told where one may fail
unfoldable pub RunsBehind : Settings → Named → Option Text → Input → Input → Option (List ℕ) → Written → Result Summary RunFault → Type 0
RunsBehind settings files since text background rest output outcome = ((fault : RunFault) × (outcome ≡ Err fault)
    × IsUnbegun files since run_fault.EarlierRead text rest output fault)
    ⊎ ((earlier : Option Input) × IsEarlier files since earlier × (outcome ≡ Err run_fault.EarlierRead → MayFail files since)
    × RunsOn settings earlier text background output outcome)

-- the same, on the background under its name; it is opened before the earlier index
unfoldable pub Runs : Settings → Named → Option Text → Option Text → Input → Option (List ℕ) → Written → Result Summary RunFault → Type 0
Runs settings files bg since text rest output outcome = ((fault : RunFault) × (outcome ≡ Err fault)
    × IsUnbegun files bg run_fault.BackgroundRead text rest output fault)
    ⊎ ((background : Input) × IsNamed files bg background × (outcome ≡ Err run_fault.BackgroundRead → MayFail files bg)
    × RunsBehind settings files since text background rest output outcome)

-- ---- the names that are asked

-- why the names are not taken from the file that has them, where there is one: it was not opened, or not read as names
abbrev pub FailsToTake : Named → Option Text → RunFault → Type 0
FailsToTake files None fault = ⊥
FailsToTake files (Some name) fault = ((fault ≡ run_fault.NamesRead) × IsUnopened (files name)) ⊎ (fault ≡ run_fault.Memory)
    ⊎ ((source : Input) × IsHeld (files name) source.text × (fault ≡ run_fault.NamesRead → MayFail files (Some name)) × FailsToName source fault)

-- the settings with the names of the file that has them, where there is one
abbrev pub TakesNames : Named → Option Text → Settings → Settings → Type 0
TakesNames files None settings taken = taken ≡ settings
TakesNames files (Some name) settings taken = (source : Input) × IsHeld (files name) source.text
    × ((names : List (List ℕ)) × ReadsNames source names × (taken ≡ record settings { only = Some names }))

-- a run by the names of this file, where there is one: they were not taken, before anything was read or written; or it is one under the settings with them
unfoldable pub RunsNamed : Option Text → Settings → Named → Option Text → Option Text → Input → Option (List ℕ) → Written → Result Summary RunFault → Type 0
RunsNamed names settings files bg since text rest output outcome =
    ((fault : RunFault) × (outcome ≡ Err fault) × (text.failed ≡ false) × (rest ≡ text.text) × (output.now ≡ output.held) × FailsToTake files names fault)
    ⊎ ((taken : Settings) × TakesNames files names settings taken × Runs taken files bg since text rest output outcome)

-- ---- the program

-- a run under a configuration, the line of its fault, and its exit status
unfoldable pub RunsTo : Config → Named → Input → Option (List ℕ) → Written → Written → ℕ → Type 0
RunsTo config files text rest output errors status = (outcome : Result Summary RunFault) × (status ≡ status_of outcome) × TellsOutcome output.abandoned errors outcome
    × RunsNamed (option_map string_bytes config.only_file) (settings_of config) files (option_map string_bytes config.bg)
    (option_map string_bytes config.since) text rest output outcome

-- what comes of a line: a run, or what is said of it, and nothing is read then
abbrev pub EndsBy : Named → Input → Option (List ℕ) → Written → Written → ℕ → Result Config LineFault → Type 0
EndsBy files text rest output errors status (Ok config) = RunsTo config files text rest output errors status
EndsBy files text rest output errors status (Err fault) = (text.failed ≡ false) × (rest ≡ text.text) × Refuses fault output errors status

-- what a program comes to: the words ask for a run, or give no configuration, and it ends by that
unfoldable pub Ends : Result (List Text) LineFault → Named → Input → Option (List ℕ) → Written → Written → ℕ → Type 0
Ends words files text rest output errors status = (line : Result Config LineFault) × Asks words line × EndsBy files text rest output errors status line

-- what a process comes to that ends with this status: some words, files and streams, of which nothing else is known here, come to it
unfoldable pub EndsSomehow : ℕ → Type 0
EndsSomehow status = (words : Result (List Text) LineFault) × (text : Input) × (rest : Option (List ℕ)) × (output : Written) × (errors : Written)
    × Ends words (λ name. unknown) text rest output errors status
