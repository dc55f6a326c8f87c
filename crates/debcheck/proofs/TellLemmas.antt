-- What is told of asked places.
use Rattle.std.proofs.Common.{◌≡◌, ◌∙◌, ℕ, zero, suc, Bool, false, true, List, [], ◌∷◌, All, None, Option, Some, inl, inr, ap, is_some, length, map, refl, slice_get, subst, sym}
use Rattle.std.specs.Borrow.{Bor}
use Rattle.std.specs.Prelude.{slice_index_or}
use Rattle.std.proofs.lemmas.Bool.{false_from_ne_true, false≢true}
use Rattle.deb_index.specs.Packages.{IndexView}
use Rattle.deb_health.specs.declared.told.Told.{Told}
use Rattle.deb_health.specs.declared.told.Wanted.{Wanted}
use Rattle.deb_health.specs.Health.{IsInstallable}
use Rattle.deb_health.specs.Verdicts.{Installable, IsTold, SpeaksOf, ToldView, told_view}
use Rattle.deb_report.specs.declared.newly_broken.Before.{Before}
use Rattle.deb_report.specs.declared.summary.Summary.{Summary}
use Rattle.deb_report.specs.Since.{BrokenView, summary_of}
use Rattle.deb_report.specs.Content.{before_view}
use Rattle.deb_report.specs.Document.{written_told}
use Rattle.run_settings.specs.Settings.{Settings}
use Rattle.work_draw.specs.Checks.{AnswersEach}
use Rattle.work_draw.proofs.Answered.{AnswersEach-All, AnswersEach-length, AnswersEach-map}
use Rattle.debcheck.specs.Run.{IsAsked, IsReportOn, IsFoundAt, IsToldAt, wanted_at, wanted_by}

-- a mark that is read is one of the list
pub mark_read : (marks : List Bool) (place : ℕ) → slice_index_or marks place false ≡ true → slice_get marks place ≡ Some true
mark_read [] place marked = absurd (false≢true marked)
mark_read (mark ∷ marks) zero marked = ap (λ (one : Bool). Some one) marked
mark_read (mark ∷ marks) (suc place) marked = mark_read marks place marked

-- what is known to be installable, where no set is wanted
sets-at : (wanted : Wanted) (index : IndexView) (before : Option (List BrokenView)) (place : ℕ) → (wanted_at wanted index before place).sets ≡ wanted.sets
sets-at wanted index None place = refl
sets-at wanted index (Some packages) place = refl

marked-told : (wanted : Wanted) (index : IndexView) (before : Option (List BrokenView)) (place : ℕ) (marks : List Bool) → (wanted.sets ≡ true → marks ≡ [])
    → slice_index_or marks place false ≡ true → IsInstallable index place → IsTold (wanted_at wanted index before place) index place Installable × SpeaksOf index Installable
marked-told wanted index before place marks none marked installable =
    let unshown : wanted.sets ≡ false = false_from_ne_true wanted.sets (λ shown. false≢true (subst (λ (list : List Bool). slice_index_or list place false ≡ true) (none shown) marked)) in
    ((sets-at wanted index before place ∙ unshown, installable), tt)

-- what is found where marks are looked up first, is what is told
pub found-told : (wanted : Wanted) (index : IndexView) (before : Option (List BrokenView)) (marks : List Bool) (place : ℕ) (told : Told) → (wanted.sets ≡ true → marks ≡ [])
    → ((place : ℕ) → slice_index_or marks place false ≡ true → IsInstallable index place) → IsFoundAt marks wanted index before place told → IsToldAt wanted index before place told
found-told wanted index before marks place told none only (inr is) = is
found-told wanted index before marks place told none only (inl h) =
    subst (λ (view : ToldView). IsTold (wanted_at wanted index before place) index place view × SpeaksOf index view) (sym h.1)
    (marked-told wanted index before place marks none h.0 (only place h.0))

module _ (wanted : Wanted) (index : IndexView) (before : Option (List BrokenView)) (asked : List ℕ) (told : List Told) (each : AnswersEach (IsToldAt wanted index before) asked told) where
  pub told-each : AnswersEach (λ place. IsTold (wanted_at wanted index before place) index place) asked (map told_view told)
  told-each = AnswersEach-map (IsToldAt wanted index before) (λ place. IsTold (wanted_at wanted index before place) index place) told_view (λ place one both. both.0) asked told each

  pub told-within : All (SpeaksOf index) (map told_view told)
  told-within = AnswersEach-All (IsToldAt wanted index before) (SpeaksOf index) told_view (λ place one both. both.1) asked told each

  pub told-length : length told ≡ length asked
  told-length = AnswersEach-length (IsToldAt wanted index before) asked told each

-- a report on what is told
some-view : (before : Option (Bor Before)) → is_some (before_view before) ≡ is_some before
some-view None = refl
some-view (Some packages) = refl

pub reported : (settings : Settings) (index : IndexView) (before : Option (Bor Before)) (asked : List ℕ) (told : List Told) (wanted : Wanted) (since : Bool) (output : List ℕ) (summary : Summary)
    → since ≡ is_some before → wanted ≡ wanted_by settings since → AnswersEach (IsToldAt wanted index (before_view before)) asked told → IsAsked settings index asked
    → output ≡ written_told settings index asked (map told_view told) (before_view before) → summary ≡ summary_of index asked (map told_view told) (before_view before)
    → IsReportOn (before_view before) settings index output summary
reported settings index before asked told wanted since output summary compared is each is_asked written counted =
    let views = map told_view told in
    let Each : Wanted → Type 0 = λ what. AnswersEach (λ place. IsTold (wanted_at what index (before_view before) place) index place) asked views in
    record {
      asked = asked;
      told = views;
      is_asked = is_asked;
      are_told = subst Each (is ∙ ap (wanted_by settings) (compared ∙ sym (some-view before))) (told-each wanted index (before_view before) asked told each);
      is_output = written;
      is_summary = counted;
    }
