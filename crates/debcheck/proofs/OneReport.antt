-- Texts have one report, since one thing is told of a package.
use Rattle.std.proofs.Common.{◌≡◌, ℕ, List, [], ◌∷◌, None, Option, Some, is_some, refl, sym, ap, ap₂, subst, arith, ◌∙◌}
use Rattle.deb_index.specs.Packages.{IndexView}
use Rattle.deb_health.specs.declared.told.Wanted.{Wanted}
use Rattle.deb_health.specs.Verdicts.{IsTold, ToldView}
use Rattle.work_draw.specs.Checks.{AnswersEach}
use Rattle.deb_report.specs.declared.summary.Summary.{Summary}
use Rattle.run_settings.specs.Settings.{Settings}
use Rattle.deb_report.specs.Document.{written_told}
use Rattle.deb_report.specs.Outcome.{listed_places}
use Rattle.deb_report.specs.Since.{BrokenView, broken_of, summary_of}
use Rattle.debcheck.specs.Run.{HasIndex, IsBefore, IsReport, IsReportOn, WereBroken, statuses, wanted_at, wanted_by}

abbrev OneTold : Type 0
OneTold = (wanted : Wanted) (index : IndexView) (p : ℕ) (a b : ToldView) → IsTold wanted index p a → IsTold wanted index p b → a ≡ b

-- so one thing is told of each
one_each : OneTold → (wanted : ℕ → Wanted) (index : IndexView) (asked : List ℕ) (as_told bs : List ToldView)
    → AnswersEach (λ place. IsTold (wanted place) index place) asked as_told → AnswersEach (λ place. IsTold (wanted place) index place) asked bs → as_told ≡ bs
one_each one wanted index [] [] [] first second = refl
one_each one wanted index (p ∷ asked) (a ∷ as_told) (b ∷ bs) first second =
    ap₂ (λ x xs. x ∷ xs) (one (wanted p) index p a b first.0 second.0) (one_each one wanted index asked as_told bs first.1 second.1)
one_each one wanted index asked as_told bs first second = absurd (grind arith)

-- an index has one report since these packages were broken
one_report_on : OneTold → (before : Option (List BrokenView)) (settings : Settings) (index : IndexView) (a b : List ℕ) (m n : Summary)
    → IsReportOn before settings index a m → IsReportOn before settings index b n → (a ≡ b) × (m ≡ n)
one_report_on one before settings index a b m n first second =
    let asked_first = first.is_asked.are_asked in
    let asked_second = second.is_asked.are_asked in
    let asked : first.asked ≡ second.asked = cc in
    let wanted : ℕ → Wanted = λ place. wanted_at (wanted_by settings (is_some before)) index before place in
    let P : List ℕ → Type 0 = λ places. AnswersEach (λ place. IsTold (wanted place) index place) places first.told in
    let told : first.told ≡ second.told = one_each one wanted index second.asked first.told second.told (subst P asked first.are_told) second.are_told in (
      first.is_output ∙ ap₂ (λ places found. written_told settings index places found before) asked told ∙ sym second.is_output,
      first.is_summary ∙ ap₂ (λ places found. summary_of index places found before) asked told ∙ sym second.is_summary,
    )

-- the texts have one index
same-index : (settings : Settings) (text background : List ℕ) (P Q : IndexView → Type 0) (first : HasIndex settings text background P) (second : HasIndex settings text background Q) → first.index ≡ second.index
same-index settings text background P Q first second =
    let read_first = first.is_index in
    let read_second = second.is_index in
    cc

-- and the earlier text has one list of broken packages
pub one_before : OneTold → (settings : Settings) (text background : List ℕ) (a b : List BrokenView)
    → HasIndex settings text background (WereBroken settings a) → HasIndex settings text background (WereBroken settings b) → a ≡ b
one_before one settings text background a b first second =
    let there = subst (WereBroken settings a) (same-index settings text background (WereBroken settings a) (WereBroken settings b) first second) first.holds in
    let places = listed_places second.index settings.only in
    let told : there.told ≡ second.holds.told = one_each one (λ place. statuses) second.index places there.told second.holds.told there.are_told second.holds.are_told in
    there.are_broken ∙ ap (λ found. broken_of second.index places found) told ∙ sym second.holds.are_broken

-- what is known from before is one
one_known : OneTold → (settings : Settings) (earlier : Option (List ℕ)) (background : List ℕ) (a b : Option (List BrokenView))
    → IsBefore settings earlier background a → IsBefore settings earlier background b → a ≡ b
one_known one settings None background a b first second = first ∙ sym second
one_known one settings (Some earlier) background a b first second =
    first.1 ∙ ap (λ (list : List BrokenView). Some list) (one_before one settings earlier background first.0 second.0 first.2 second.2) ∙ sym second.1

pub one_report : OneTold → (settings : Settings) (earlier : Option (List ℕ)) (text background a b : List ℕ) (m n : Summary)
    → IsReport settings earlier text background a m → IsReport settings earlier text background b n → (a ≡ b) × (m ≡ n)
one_report one settings earlier text background a b m n first second =
    let before = one_known one settings earlier background first.before second.before first.was second.was in
    let P : IndexView → Type 0 = λ view. IsReportOn first.before settings view a m in
    let Q : IndexView → Type 0 = λ view. IsReportOn second.before settings view b n in
    let R : Option (List BrokenView) → Type 0 = λ known. IsReportOn known settings second.has.index a m in
    let there : R first.before = subst P (same-index settings text background P Q first.has second.has) first.has.holds in
    one_report_on one second.before settings second.has.index a b m n (subst R before there) second.has.holds
