-- Lemmas on what a run answers.
use Rattle.std.proofs.Common.{◌≡◌, ◌∙◌, ℕ, false, List, [], Option, Some, None, Ok, Err, option_map, refl, ap, sym, subst, arith, inl, inr}
use Rattle.std.proofs.lemmas.Bool.{cases_Bool}
use Rattle.deb_index.specs.Packages.{IndexView}
use Rattle.deb_input.specs.declared.fault.RunFault.{RunFault}
use Rattle.deb_input.specs.declared.fault.RunFault.TheVariants.{Read, TooLong, BackgroundRead, BackgroundTooLong, Index, Background, UnknownAsked, Slipped, Memory, Write}
use Rattle.deb_report.specs.declared.summary.Summary.{Summary}
use Rattle.deb_report.specs.Outcome.{asked_places}
use Rattle.run_settings.specs.Settings.{Settings}
use Rattle.deb_input.specs.Inputs.{Input, input, slip_of}
use Rattle.debcheck.specs.Run.{Fails, FailsAlone, FailsToIndex, HasAsked, HasIndex, IsReport, behind, earlier_fault}
use Rattle.deb_input.proofs.IndexLemmas.{fore-of-both}

-- what is read behind the index is the background, where that is told: one that isn't asked for has no bytes
told_behind : (settings : Settings) (background : List ℕ) → (settings.background ≡ false → background ≡ []) → behind settings (input (Some background) false) ≡ input (Some background) false
told_behind settings background none = elim (cases_Bool settings.background) [
  | inl read ↦ rw read refl
  | inr unread ↦ rw unread (ap (λ bytes. input (Some bytes) false) (sym (none unread)))
]

-- where there is an index and no device failed, only want of memory is left; so far of what is read behind the index
indexed-behind : (settings : Settings) (text background : List ℕ) (P : IndexView → Type 0) (fault : RunFault) → behind settings (input (Some background) false) ≡ input (Some background) false
    → HasIndex settings text background P → FailsToIndex settings (input (Some text) false) (input (Some background) false) fault → fault ≡ Memory
indexed-behind settings text background P Read is has fails = cc
indexed-behind settings text background P TooLong is has fails =
    let within = has.within in
    let over = fails.1 in
    absurd (omega arith)
indexed-behind settings text background P BackgroundRead is has fails =
    let failed : (behind settings (input (Some background) false)).failed ≡ false = ap (λ (source : Input). source.failed) is in
    let other = fails.1 in
    cc
indexed-behind settings text background P BackgroundTooLong is has fails =
    let within = has.background_within in
    let over = (rw is at fails.1).1 in
    absurd (omega arith)
indexed-behind settings text background P (Index fault) is has fails =
    let refused = fails.2 in
    let accepted = fore-of-both text background settings.arch settings.essential has.index has.is_index in
    absurd (accepted fault refused)
indexed-behind settings text background P (Background fault) is has fails =
    let refused = rw is at fails.3 in
    let accepted = has.is_index in
    cc
indexed-behind settings text background P Memory is has fails = refl
indexed-behind settings text background P fault is has fails = absurd fails

-- the same of a run, where what is asked is known, too
asked-behind : (settings : Settings) (text background : List ℕ) (fault : RunFault) → behind settings (input (Some background) false) ≡ input (Some background) false
    → HasIndex settings text background (HasAsked settings) → FailsAlone settings (input (Some text) false) (input (Some background) false) false fault → fault ≡ Memory
asked-behind settings text background (UnknownAsked name) is has fails =
    let accepted = has.is_index in
    let found = rw is at fails.1 in
    let other = found.1 in
    let same : found.0 ≡ has.index = cc in
    let P : IndexView → Type 0 = λ index. asked_places index settings.only ≡ Err name.items in
    let unknown = subst P same found.2 in
    let asked = has.holds.1.are_asked in
    cc
asked-behind settings text background (Slipped slip) is has fails =
    let accepted = has.is_index in
    let found = rw is at fails.1 in
    let other = found.1 in
    let same : found.0 ≡ has.index = cc in
    let P : IndexView → Type 0 = λ index. (asked : List ℕ) × (asked_places index settings.only ≡ Ok asked) × (slip_of settings index asked ≡ Some slip) in
    let slipped = subst P same found.2 in
    let first = slipped.1 in
    let second = has.holds.1.are_asked in
    let places : slipped.0 ≡ has.holds.0 = cc in
    let Q : List ℕ → Type 0 = λ asked. slip_of settings has.index asked ≡ Some slip in
    let some = subst Q places slipped.2 in
    let none = has.holds.1.no_slip in
    cc
asked-behind settings text background Write is has fails =
    let failed = fails.0 in
    cc
asked-behind settings text background fault is has fails = indexed-behind settings text background (HasAsked settings) fault is has fails

-- a report is on an index of which something is asked
has-asked : (settings : Settings) (earlier : Option (List ℕ)) (text background output : List ℕ) (summary : Summary) → IsReport settings earlier text background output summary
    → HasIndex settings text background (HasAsked settings)
has-asked settings earlier text background output summary report =
    let has = report.has in
    record {
      index = has.index;
      within = has.within;
      background_within = has.background_within;
      no_background = has.no_background;
      is_index = has.is_index;
      holds = (has.holds.asked, has.holds.is_asked);
    }

pub refused-memory : (settings : Settings) (earlier : Option (List ℕ)) (text background output : List ℕ) (summary : Summary) (fault : RunFault) → IsReport settings earlier text background output summary
    → Fails settings (option_map (λ was. input (Some was) false) earlier) (input (Some text) false) (input (Some background) false) false fault → fault ≡ Memory
refused-memory settings None text background output summary fault report fails =
    let has = has-asked settings None text background output summary report in
    asked-behind settings text background fault (told_behind settings background has.no_background) has fails
refused-memory settings (Some earlier) text background output summary fault report (inl h) =
    let why = h.1 in
    let was = report.was.2 in
    let cause : why.0 ≡ Memory = indexed-behind settings earlier background _ why.0 (told_behind settings background was.no_background) was why.2 in
    why.1 ∙ ap earlier_fault cause
refused-memory settings (Some earlier) text background output summary fault report (inr h) =
    let has = has-asked settings (Some earlier) text background output summary report in
    asked-behind settings text background fault (told_behind settings background has.no_background) has h.1
