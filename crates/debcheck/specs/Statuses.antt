-- The statuses of runs, and where the text on a fault of the command line goes.
use Rattle.std.specs.Prelude.{ℕ, Result, Ok, Err, if◌then◌else◌, ◌==◌, ◌≡◌, Bool, List, Option, string_bytes}
use Rattle.std.specs.Option.{unwrap_or}
use Rattle.deb_input.specs.declared.fault.RunFault.{RunFault}
use Rattle.deb_input.specs.declared.fault.RunFault.TheVariants.{Read, TooLong, BackgroundRead, BackgroundTooLong, EarlierRead, EarlierTooLong, NamesRead, NamesTooLong, BadNameLine, Index, Background, Earlier, UnknownAsked, Slipped, Memory, Write}
use Rattle.deb_report.specs.declared.summary.Summary.{Summary}
use Rattle.std.specs.Io.KnownBytes.{Appends}
use Rattle.command_line.specs.declared.fault.LineFault.{LineFault}
use Rattle.command_line.specs.declared.fault.LineFault.TheVariants.{Refused, Help, Memory}
use Rattle.deb_input.specs.declared.fault.RunFault.TheVariants as run_fault
use Rattle.devices.specs.Devices.{AppendsPart}
use Rattle.deb_input.specs.Faults.{fault_line}

-- how many broken packages the status tells of: the newly broken ones, where there is an earlier index, else all
abbrev pub told_broken : Summary → ℕ
told_broken summary = unwrap_or summary.newly_broken summary.broken

-- the exit status of a run
abbrev pub status_of : Result Summary RunFault → ℕ
status_of (Ok summary) = if told_broken summary == 0 then 0 else 1
status_of (Err (Index fault)) = 65
status_of (Err (Background fault)) = 65
status_of (Err (Earlier fault)) = 65
status_of (Err (Slipped slip)) = 65
status_of (Err (BadNameLine line)) = 65
status_of (Err (UnknownAsked name)) = 66
status_of (Err Read) = 67
status_of (Err TooLong) = 67
status_of (Err BackgroundRead) = 67
status_of (Err BackgroundTooLong) = 67
status_of (Err EarlierRead) = 67
status_of (Err EarlierTooLong) = 67
status_of (Err NamesRead) = 67
status_of (Err NamesTooLong) = 67
status_of (Err Write) = 68
status_of (Err Memory) = 69

-- help and the version go to the output, all else to the errors
abbrev pub TellsLine : LineFault → Option (List ℕ) → Option (List ℕ) → Option (List ℕ) → Option (List ℕ) → Type 0
TellsLine (Help text) output now errors later = Appends output now (string_bytes text)
TellsLine (Refused text) output now errors later = Appends errors later (string_bytes text)
TellsLine Memory output now errors later = Appends errors later (fault_line run_fault.Memory)

-- and where it is a front of the text that goes there
abbrev pub TellsFront : LineFault → Option (List ℕ) → Option (List ℕ) → Option (List ℕ) → Option (List ℕ) → Type 0
TellsFront (Help text) output now errors later = AppendsPart output now (string_bytes text)
TellsFront (Refused text) output now errors later = AppendsPart errors later (string_bytes text)
TellsFront Memory output now errors later = AppendsPart errors later (fault_line run_fault.Memory)

-- a mark of the device that the text goes to, of the output's and the errors'
abbrev pub mark_of : LineFault → Bool → Bool → Bool
mark_of (Help text) output errors = output
mark_of (Refused text) output errors = errors
mark_of Memory output errors = errors

-- the other device is left as it was
abbrev pub KeepsOther : LineFault → Option (List ℕ) → Option (List ℕ) → Option (List ℕ) → Option (List ℕ) → Type 0
KeepsOther (Help text) output now errors later = later ≡ errors
KeepsOther (Refused text) output now errors later = now ≡ output
KeepsOther Memory output now errors later = now ≡ output
