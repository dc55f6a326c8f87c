-- Lemmas on a background that is not asked for.
use Rattle.std.proofs.Common.{◌≡◌, ◌∙◌, ℕ, Bool, true, false, List, [], Option, Some, None, Result, Ok, Err, if◌then◌else◌, ap, arith, inl, inr, refl, subst, sym}
use Rattle.std.proofs.lemmas.Bool.{cases_Bool}
use Rattle.deb_index.specs.declared.error.BothError.TheVariants.{Back}
use Rattle.deb_index.specs.declared.error.IndexError.{IndexError}
use Rattle.deb_index.specs.Packages.{IndexView}
use Rattle.deb_index.specs.Reading.{in_fore, index_of, index_of_both}
use Rattle.deb_index.proofs.BackgroundLemmas.{both-empty}
use Rattle.deb_input.specs.declared.fault.RunFault.{RunFault}
use Rattle.deb_input.specs.declared.fault.RunFault.TheVariants.{BackgroundRead, BackgroundTooLong, Background}
use Rattle.deb_report.specs.declared.summary.Summary.{Summary}
use Rattle.deb_report.specs.Since.{BrokenView}
use Rattle.run_settings.specs.Settings.{Settings}
use Rattle.deb_input.specs.Inputs.{Input, IsReadAs, input}
use Rattle.debcheck.specs.Run.{FailsAlone, IsReport, IsReportOn, behind, is_of_background}

-- no bytes have no fault
fore-alone : (read : Result IndexView IndexError) (fault : IndexError) → in_fore read ≡ Err (Back fault) → ⊥
fore-alone (Ok index) fault h = absurd cc
fore-alone (Err e) fault h = absurd cc

none-refused : (text arch : List ℕ) (essential : Bool) (fault : IndexError) → index_of_both text [] arch essential ≡ Err (Back fault) → ⊥
none-refused text arch essential fault h = fore-alone (index_of text arch essential) fault (sym (both-empty text arch essential) ∙ h)

-- what is not asked for is read as no bytes
no-input : (asked : Bool) (background : Input) → asked ≡ false → (if asked then background else input (Some []) false) ≡ input (Some []) false
no-input asked background none = rw none refl

-- a background with a fault was asked for
pub back-asked : (settings : Settings) (background : Input) (bytes more : List ℕ) (fault : IndexError) → IsReadAs (behind settings background) more
    → index_of_both bytes more settings.arch settings.essential ≡ Err (Back fault) → settings.background ≡ true
back-asked settings background bytes more fault reads h = elim (cases_Bool settings.background) [
  | inl asked ↦ asked
  | inr none ↦
      let P : List ℕ → Type 0 = λ m. index_of_both bytes m settings.arch settings.essential ≡ Err (Back fault) in
      let read = rw (no-input settings.background background none) at reads in
      absurd (none-refused bytes settings.arch settings.essential fault (subst P (sym read.1) h))
]

same-alone : (read : Result IndexView IndexError) (both fore : IndexView) → in_fore read ≡ Ok both → read ≡ Ok fore → both ≡ fore
same-alone (Ok index) both fore h k = cc
same-alone (Err e) both fore h k = absurd cc

-- without a background the report is that on the index of the text alone
pub report-alone : (settings : Settings) (text background output : List ℕ) (summary : Summary) (index : IndexView) → settings.background ≡ false → index_of text settings.arch settings.essential ≡ Ok index
    → IsReport settings None text background output summary → IsReportOn None settings index output summary
report-alone settings text background output summary index none is report =
    let has = report.has in
    let P : List ℕ → Type 0 = λ m. index_of_both text m settings.arch settings.essential ≡ Ok has.index in
    let both = subst P (has.no_background none) has.is_index in
    let same : has.index ≡ index = same-alone (index_of text settings.arch settings.essential) has.index index (sym (both-empty text settings.arch settings.essential) ∙ both) is in
    let Q : IndexView → Type 0 = λ view. IsReportOn report.before settings view output summary in
    let R : Option (List BrokenView) → Type 0 = λ before. IsReportOn before settings index output summary in
    subst R report.was (subst Q same has.holds)

-- nor is any fault told of one
pub fails-alone : (settings : Settings) (text background : Input) (write_failed : Bool) (fault : RunFault) → settings.background ≡ false → FailsAlone settings text background write_failed fault → is_of_background fault ≡ false
fails-alone settings text background w BackgroundRead none h =
    let unmarked : (behind settings background).failed ≡ false = ap (λ (source : Input). source.failed) (no-input settings.background background none) in
    let marked = h.1 in
    absurd cc
fails-alone settings text background w BackgroundTooLong none h =
    let over = (rw (no-input settings.background background none) at h.1).1 in
    absurd (omega arith)
fails-alone settings text background w (Background fault) none h =
    let asked = h.0 in
    absurd cc
fails-alone settings text background w fault none h = refl
