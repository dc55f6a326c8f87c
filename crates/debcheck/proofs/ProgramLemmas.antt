-- Lemmas on what a program comes to.
use Rattle.std.proofs.Common.{◌≡◌, ◌∙◌, ℕ, Bool, true, false, List, Option, Some, None, Result, Ok, Err, IfErr, IfOk, OnErr, OnOk, inl, inr, refl, subst, sym}
use Rattle.std.specs.Io.KnownBytes.{Appends}
use Rattle.run_settings.specs.declared.config.Config.{Config}
use Rattle.deb_report.specs.declared.summary.Summary.{Summary}
use Rattle.run_settings.specs.Settings.{Settings}
use Rattle.devices.specs.declared.device.DeviceFault.{DeviceFault}
use Rattle.deb_input.specs.declared.fault.RunFault.{RunFault}
use Rattle.deb_input.specs.declared.fault.RunFault.TheVariants as run_fault
use Rattle.command_line.specs.declared.fault.LineFault.{LineFault}
use Rattle.command_line.specs.declared.fault.LineFault.TheVariants.{Refused, Help, Memory}
use Rattle.devices.specs.Devices.{AppendsPart, IsHeld, IsUnopened}
use Rattle.deb_input.specs.Faults.{told_line}
use Rattle.debcheck.specs.Statuses.{KeepsOther, TellsFront, TellsLine, mark_of}
use Rattle.command_line.specs.Line.{Accepts, RefusesLine, line_status_of}
use Rattle.deb_input.specs.Names.{FailsToName, ReadsNames}
use Rattle.debcheck.specs.Program.{Asks, FailsToTake, IsEarlier, IsNamed, IsUnbegun, MayFail, Named, Refuses, RunsBehind, TakesNames, TellsFault, TellsUnless, Text}
use Rattle.deb_input.specs.Inputs.{Input, input}
use Rattle.debcheck.specs.Run.{RunsOn, Written, written}

-- ---- what is told

-- the line of a fault, by what its writing comes to
pub tells_fault : (device : Written) (fault : RunFault) (r : Result Bool DeviceFault) → IfOk r (λ own. Appends device.held device.now (told_line own fault)) → OnOk r (device.flushed ≡ true)
    → OnErr r ((own : Bool) × AppendsPart device.held device.now (told_line own fault)) → OnErr r (device.failed ≡ true) → TellsFault device fault
unfolding TellsFault
tells_fault device fault (Ok own) line flushed part failed = (own, inl (line, flushed))
tells_fault device fault (Err e) line flushed part failed = (part.0, inr (part.1, failed))

-- nothing is told, or the line of a fault
pub tells_nothing : (silent : Bool) (device : Written) (fault : RunFault) → silent ≡ true → device.now ≡ device.held → TellsUnless silent device fault
tells_nothing true device fault is kept = kept
tells_nothing false device fault is kept = absurd cc

pub tells_something : (silent : Bool) (device : Written) (fault : RunFault) → silent ≡ false → TellsFault device fault → TellsUnless silent device fault
tells_something true device fault is told = absurd cc
tells_something false device fault is told = told

-- a line without a configuration, of which all was told
pub all_told : (fault : LineFault) (output errors : Written) (status : ℕ) → status ≡ line_status_of fault → TellsLine fault output.held output.now errors.held errors.now
    → mark_of fault output.flushed errors.flushed ≡ true → KeepsOther fault output.held output.now errors.held errors.now → Refuses fault output errors status
unfolding Refuses
all_told (Refused text) output errors status is told flushed kept = (is, kept, inl (told, flushed))
all_told (Help text) output errors status is told flushed kept = inl (is, (told, flushed), kept)
all_told Memory output errors status is told flushed kept = (is, kept, inl (told, flushed))

-- a line that is told to the errors, of which a front was told
pub front_told : (fault : LineFault) (output errors : Written) (status : ℕ) → mark_of fault true false ≡ false → status ≡ line_status_of fault
    → TellsFront fault output.held output.now errors.held errors.now → mark_of fault output.failed errors.failed ≡ true → KeepsOther fault output.held output.now errors.held errors.now
    → Refuses fault output errors status
unfolding Refuses
front_told (Refused text) output errors status other is front failed kept = (is, kept, inr (front, failed))
front_told (Help text) output errors status other is front failed kept = absurd cc
front_told Memory output errors status other is front failed kept = (is, kept, inr (front, failed))

-- help of which a front was told, and then that it was not written
pub help_told : (fault : LineFault) (output errors : Written) (mid : Option (List ℕ)) (mid_failed : Bool) (status : ℕ) → mark_of fault true false ≡ true
    → status ≡ 68 → TellsFront fault output.held output.now errors.held mid → mark_of fault output.failed mid_failed ≡ true → KeepsOther fault output.held output.now errors.held mid
    → TellsUnless output.abandoned (written mid errors.now errors.failed errors.flushed errors.abandoned) run_fault.Write → Refuses fault output errors status
unfolding Refuses
help_told (Refused text) output errors mid mid_failed status out is front failed kept told = absurd cc
help_told (Help text) output errors mid mid_failed status out is front failed kept told =
    let P : Option (List ℕ) → Type 0 = λ held. TellsUnless output.abandoned (written held errors.now errors.failed errors.flushed errors.abandoned) run_fault.Write in
    inr (is, (front, failed), subst P kept told)
help_told Memory output errors mid mid_failed status out is front failed kept told = absurd cc

-- ---- the words

pub asks_read : (words : List Text) (r : Result Config LineFault) → IfOk r (Accepts words) → IfErr r (RefusesLine words) → Asks (Ok words) r
unfolding Asks
asks_read words (Ok config) accepted refused = accepted
asks_read words (Err fault) accepted refused = refused

-- ---- the run

-- what holds of the name that a word gives
by_name : (P : Option Text → Type 0) (name : Option Text) (told said : Text) → name ≡ Some said → told ≡ said → P (Some told) → P name
by_name P name told said is same h = rw (is, ← same) h

-- what was opened under a name
pub named_by : (files : Named) (name : Option Text) (told said : Text) (background : Input) → name ≡ Some said → told ≡ said → IsHeld (files told) background.text → IsNamed files name background
named_by files name told said background is same held = by_name (λ n. IsNamed files n background) name told said is same held

-- where a read of what was opened may fail, so may one of what stands under the name
pub may_by : (files : Named) (name : Option Text) (told said : Text) (may : Bool) (of : RunFault) (r : Result Summary RunFault) → name ≡ Some said → told ≡ said → may ≡ (files told).may_fail
    → IfErr r (λ fault. fault ≡ of → may ≡ true) → r ≡ Err of → MayFail files name
may_by files name told said may of (Ok summary) is same stands fails outcome = absurd cc
may_by files name told said may of (Err fault) is same stands fails outcome =
    let e : fault ≡ of = cc in
    by_name (MayFail files) name told said is same (sym stands ∙ fails e)

pub may_none : (files : Named) (name : Option Text) → name ≡ None → MayFail files name
may_none files name is = rw is tt

-- a run without an earlier index
pub runs_alone : (settings : Settings) (files : Named) (since : Option Text) (text background : Input) (rest : Option (List ℕ)) (output : Written) (r : Result Summary RunFault) → since ≡ None
    → RunsOn settings None text background output r → RunsBehind settings files since text background rest output r
unfolding RunsBehind
runs_alone settings files since text background rest output r none runs = rw none (inr (None, refl, (λ is. tt), runs))

-- a run on an earlier index
pub runs_since : (settings : Settings) (files : Named) (since : Option Text) (told said : Text) (may : Bool) (text background earlier : Input) (rest : Option (List ℕ)) (output : Written) (r : Result Summary RunFault)
    → since ≡ Some said → told ≡ said → IsHeld (files told) earlier.text → may ≡ (files told).may_fail → IfErr r (λ fault. fault ≡ run_fault.EarlierRead → may ≡ true)
    → RunsOn settings (Some earlier) text background output r → RunsBehind settings files since text background rest output r
unfolding RunsBehind
runs_since settings files since told said may text background earlier rest output r is same held stands honest runs =
    let opened : IsEarlier files since (Some earlier) = by_name (λ n. IsEarlier files n (Some earlier)) since told said is same (earlier, refl, held) in
    inr (Some earlier, opened, may_by files since told said may run_fault.EarlierRead r is same stands honest, runs)

-- a file was not opened, since there is nothing, or memory was wanted
pub unopened : (files : Named) (name : Option Text) (fault : RunFault) (told said : Text) (rest held : Option (List ℕ)) (read write flushed abandoned : Bool) → name ≡ Some said → told ≡ said → read ≡ false
    → IsUnopened (files told) → IsUnbegun files name fault (input rest read) rest (written held held write flushed abandoned) fault
unopened files name fault told said rest held read write flushed abandoned is same unread none =
    by_name (λ n. IsUnbegun files n fault (input rest read) rest (written held held write flushed abandoned) fault) name told said is same (unread, refl, refl, inl (refl, none))

pub unopened_memory : (files : Named) (name : Option Text) (fault : RunFault) (said : Text) (rest held : Option (List ℕ)) (read write flushed abandoned : Bool) → name ≡ Some said → read ≡ false
    → IsUnbegun files name fault (input rest read) rest (written held held write flushed abandoned) run_fault.Memory
unopened_memory files name fault said rest held read write flushed abandoned is unread = rw is (unread, refl, refl, inr refl)

-- ---- the names that are asked

pub takes_none : (files : Named) (name : Option Text) (settings : Settings) → name ≡ None → TakesNames files name settings settings
takes_none files name settings none = rw none refl

pub takes_those : (files : Named) (name : Option Text) (told said : Text) (source : Input) (names : List (List ℕ)) (settings taken : Settings) → name ≡ Some said → told ≡ said
    → IsHeld (files told) source.text → ReadsNames source names → taken ≡ record settings { only = Some names } → TakesNames files name settings taken
takes_those files name told said source names settings taken is same held reads takes =
    by_name (λ n. TakesNames files n settings taken) name told said is same (source, held, (names, reads, takes))

pub takes_unopened : (files : Named) (name : Option Text) (told said : Text) (fault : RunFault) → name ≡ Some said → told ≡ said → fault ≡ run_fault.NamesRead → IsUnopened (files told) → FailsToTake files name fault
takes_unopened files name told said fault is same unread none = by_name (λ n. FailsToTake files n fault) name told said is same (inl (unread, none))

pub takes_memory : (files : Named) (name : Option Text) (said : Text) (fault : RunFault) → name ≡ Some said → fault ≡ run_fault.Memory → FailsToTake files name fault
takes_memory files name said fault is wanted = rw is (inr (inl wanted))

pub takes_bad : (files : Named) (name : Option Text) (told said : Text) (may : Bool) (source : Input) (fault : RunFault) → name ≡ Some said → told ≡ said → IsHeld (files told) source.text
    → may ≡ (files told).may_fail → (fault ≡ run_fault.NamesRead → may ≡ true) → FailsToName source fault
    → FailsToTake files name fault
takes_bad files name told said may source fault is same held stands honest fails =
    by_name (λ n. FailsToTake files n fault) name told said is same (inr (inr (source, held, (λ e. sym stands ∙ honest e), fails)))
