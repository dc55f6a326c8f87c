-- From the phases of a run to the whole run.
use Rattle.std.proofs.Common.{◌≡◌, ◌∙◌, ℕ, ◌≤◌, Bool, true, false, List, [], Option, Some, None, Result, Ok, Err, IfSome, if◌then◌else◌, ◌++◌, append-nil, ap, inl, inr, length, refl, sym, subst}
use Rattle.std.specs.Io.KnownBytes.{Consumes, IsAtEnd, Keeps}
use Rattle.std.proofs.lemmas.Option.{IfSome_then}
use Rattle.deb_index.specs.Packages.{IndexView}
use Rattle.deb_index.specs.Reading.{byte_limit, index_of_both}
use Rattle.deb_index.specs.declared.error.IndexError.{IndexError}
use Rattle.deb_input.specs.declared.fault.RunFault.{RunFault}
use Rattle.deb_input.specs.declared.fault.RunFault.TheVariants.{Read, TooLong, BackgroundRead, BackgroundTooLong, EarlierRead, EarlierTooLong, Index, Background, Earlier, UnknownAsked, Slipped, Memory, Write}
use Rattle.deb_report.specs.declared.summary.Summary.{Summary}
use Rattle.deb_report.specs.Since.{BrokenView}
use Rattle.run_settings.specs.Settings.{Settings}
use Rattle.deb_input.specs.Inputs.{FailsToAccept, Input, IsRead, IsReadAs, input, is_unread}
use Rattle.deb_input.specs.Pieces.{ReadsAll}
use Rattle.debcheck.specs.Run.{Fails, FailsAlone, FailsEarlier, FailsToIndex, FailsToReadBehind, FailsToReport, FailsToWrite, HasAsked, HasIndex, IfAllTold, IfIndexed, IfTold, IsOfEarlier, IsReport, IsReportOn, ReadsAs, RunsOn, Tells, WereBroken, Written, behind, earlier_fault}
use Rattle.debcheck.proofs.BackgroundLemmas.{back-asked}
use Rattle.deb_input.proofs.IndexLemmas.{both-fore}

-- ---- reading

-- all bytes that are told were read
whole : (old new : Option (List ℕ)) (bytes : List ℕ) → Consumes old new bytes → IsAtEnd new → IfSome old (λ told. told ≡ bytes)
whole None new bytes consumes ends = tt
whole (Some xs) None bytes consumes ends = absurd consumes
whole (Some xs) (Some ys) bytes consumes ends = consumes ∙ ap (λ rest. bytes ++ rest) ends ∙ append-nil bytes

pub read_whole : {old new : Option (List ℕ)} {before failed : Bool} {bytes : List ℕ} → ReadsAll old new before failed bytes → before ≡ false → IsReadAs (input old failed) bytes
read_whole {old} {new} {before} {failed} {bytes} all unmarked = (all.unfailed ∙ unmarked, whole old new bytes all.consumes all.ends, all.within)

pub read-as : (source : Input) (bytes : List ℕ) → IsReadAs source bytes → IsRead source
read-as source bytes reads = (reads.0, IfSome_then source.text reads.1 (λ all is. rw is reads.2))

-- what holds of the bytes that were read, holds of those that are told
told_both : (settings : Settings) (text background : Input) (bytes more : List ℕ) (P : List ℕ → List ℕ → Type 0) → IsReadAs text bytes → IsReadAs (behind settings background) more → P bytes more
    → IfTold settings text background P
told_both settings text background bytes more P first second h =
    IfSome_then text.text first.1 (λ a here. IfSome_then (behind settings background).text second.1 (λ b there. rw (here, there) h))

-- a background that could not be read, behind a text that was
pub behind-fails : (settings : Settings) (text background : Input) (fault : RunFault) → IsRead text → FailsToReadBehind (behind settings background) fault
    → FailsToIndex settings text background fault × (is_unread fault ≡ false)
behind-fails settings text background BackgroundRead read h = ((read, h), refl)
behind-fails settings text background BackgroundTooLong read h = ((read, h), refl)
behind-fails settings text background Memory read h = ((read.0, h), refl)
behind-fails settings text background fault read h = absurd h

-- texts that were read and are no index
pub accept-fails : (settings : Settings) (text background : Input) (bytes more : List ℕ) (fault : RunFault) → IsReadAs text bytes → IsReadAs (behind settings background) more
    → FailsToAccept settings bytes more fault → FailsToIndex settings text background fault
accept-fails settings text background bytes more (Index fault) first second h = (
  h.0,
  (read-as text bytes first, read-as (behind settings background) more second),
  IfSome_then text.text first.1 (λ a is. rw is (both-fore bytes more settings.arch settings.essential fault h.1)),
)
accept-fails settings text background bytes more (Background fault) first second h = (
  back-asked settings background bytes more fault second h.1,
  h.0,
  (read-as text bytes first, read-as (behind settings background) more second),
  told_both settings text background bytes more _ first second h.1,
)
accept-fails settings text background bytes more Memory first second h = (first.0, second.0)
accept-fails settings text background bytes more fault first second h = absurd h

-- texts that were read and have an index
pub accepted-as : (settings : Settings) (text background : Input) (bytes more : List ℕ) (index : IndexView) → IsReadAs text bytes → IsReadAs (behind settings background) more
    → index_of_both bytes more settings.arch settings.essential ≡ Ok index → ReadsAs settings text background index
accepted-as settings text background bytes more index first second is =
    ((read-as text bytes first, read-as (behind settings background) more second), told_both settings text background bytes more _ first second is)

-- ---- failing

-- where there is no index, the run fails
indexing-fails : (settings : Settings) (text background : Input) (w : Bool) (fault : RunFault) → FailsToIndex settings text background fault → FailsAlone settings text background w fault
indexing-fails settings text background w (UnknownAsked name) h = absurd h
indexing-fails settings text background w (Slipped slip) h = absurd h
indexing-fails settings text background w Write h = absurd h
indexing-fails settings text background w fault h = h

-- an index that was read, with a property that it has
as-indexed : (settings : Settings) (text background : Input) (index : IndexView) (P : IndexView → Type 0) → ReadsAs settings text background index → P index → IfIndexed settings text background P
as-indexed settings text background index P reads h =
    (reads.0, IfSome_then text.text reads.1 (λ a told. IfSome_then (behind settings background).text told (λ b is. (index, is, h))))

-- what fails once the index is there, fails as a run
report-fails : (settings : Settings) (text background : Input) (index : IndexView) (w : Bool) (fault : RunFault) → ReadsAs settings text background index → FailsToReport settings index fault
    → FailsAlone settings text background w fault
report-fails settings text background index w (UnknownAsked name) reads h = as-indexed settings text background index (λ view. FailsToReport settings view (UnknownAsked name)) reads h
report-fails settings text background index w (Slipped slip) reads h = as-indexed settings text background index (λ view. FailsToReport settings view (Slipped slip)) reads h
report-fails settings text background index w Memory reads h = (reads.0.0.0, reads.0.1.0)
report-fails settings text background index w fault reads h = absurd h

write-fails : (settings : Settings) (text background : Input) (index : IndexView) (w : Bool) (fault : RunFault) → ReadsAs settings text background index → FailsToWrite settings index w fault
    → FailsAlone settings text background w fault
write-fails settings text background index w fault reads (inl h) = report-fails settings text background index w fault reads h
write-fails settings text background index w fault reads (inr h) =
    let P : RunFault → Type 0 = λ f. FailsAlone settings text background w f in
    subst P (sym h.0) (h.1, as-indexed settings text background index (HasAsked settings) reads h.2)

-- ---- writing

-- two properties of what is told make a third
both_told : {P Q R : List ℕ → Type 0} (told : Option (List ℕ)) → IfSome told P → IfSome told Q → ((bytes : List ℕ) → P bytes → Q bytes → R bytes) → IfSome told R
both_told None p q f = tt
both_told (Some bytes) p q f = f bytes p q

-- a background that is not asked for has no bytes
no_bytes : (told : Option (List ℕ)) → IfSome told (λ bytes. true ≡ false → bytes ≡ [])
no_bytes None = tt
no_bytes (Some bytes) = λ other. absurd cc

unread_if : (read : Bool) (background : Input) → IfSome (if read then background else input (Some []) false).text (λ bytes. read ≡ false → bytes ≡ [])
unread_if true background = no_bytes background.text
unread_if false background = λ unread. refl

-- texts that are told have the index that was read, with a property that it has
told_index : (settings : Settings) (text background : Input) (P : IndexView → Type 0) → IfIndexed settings text background P
    → IfTold settings text background (λ bytes more. HasIndex settings bytes more P)
told_index settings text background P indexed =
    let more = (behind settings background).text in
    let none : IfSome more (λ bytes. settings.background ≡ false → bytes ≡ []) = unread_if settings.background background in
    let bound : IfSome more (λ bytes. (length bytes ≤ byte_limit) × (settings.background ≡ false → bytes ≡ [])) = both_told more indexed.0.1.1 none (λ b small unasked. (small, unasked)) in
    both_told text.text indexed.0.0.1 indexed.1
    (λ a short told.
    both_told more bound told
    (λ b small is. record { index = is.0; within = short; background_within = small.0; no_background = small.1; is_index = is.1; holds = is.2 }))

-- ---- the report

-- no report is made
pub tells-none : (before : Option (List BrokenView)) (settings : Settings) (index : IndexView) (writer : Written) (fault : RunFault) → FailsToReport settings index fault → Keeps writer.held writer.now
    → Tells before settings index writer (Err fault)
tells-none before settings index writer fault h kept = record {
  report = tt;
  flushed = tt;
  unfailed = tt;
  refused = inl h;
  kept = λ other. kept;
  front = λ is. absurd (subst (λ (f : RunFault). FailsToReport settings index f) is h);
}

report-read : (settings : Settings) (index : IndexView) (fault : RunFault) → FailsToReport settings index fault → is_unread fault ≡ false
report-read settings index Read h = absurd h
report-read settings index TooLong h = absurd h
report-read settings index fault h = refl

-- where a report is not made or written, all was read
pub all-read : (settings : Settings) (index : IndexView) (w : Bool) (fault : RunFault) → FailsToWrite settings index w fault
    → (is_unread fault ≡ false) × (fault ≡ BackgroundRead → ⊥) × (fault ≡ EarlierRead → ⊥)
all-read settings index w fault (inl h) =
    let P : RunFault → Type 0 = λ f. FailsToReport settings index f in
    (report-read settings index fault h, (λ e. subst P e h), (λ e. subst P e h))
all-read settings index w fault (inr h) =
    let is = h.0 in
    (ap is_unread is, (λ e. absurd cc), (λ e. absurd cc))

-- and no fault is one of an earlier index, where a cause is none
pub none-of-earlier : (P : RunFault → Type 0) → (P EarlierRead → ⊥) → (P EarlierTooLong → ⊥) → ((cause : IndexError) → P (Earlier cause) → ⊥) → (fault : RunFault) → P fault → IsOfEarlier fault → ⊥
none-of-earlier P read long cause fault h (inl is) = read (subst P is h)
none-of-earlier P read long cause fault h (inr (inl is)) = long (subst P is h)
none-of-earlier P read long cause fault h (inr (inr is)) = cause is.0 (subst P is.1 h)

pub write-of-none : (settings : Settings) (index : IndexView) (w : Bool) (fault : RunFault) → FailsToWrite settings index w fault → IsOfEarlier fault → ⊥
write-of-none settings index w fault (inl h) = none-of-earlier (FailsToReport settings index) (λ h. h) (λ h. h) (λ cause h. h) fault h
write-of-none settings index w fault (inr h) = none-of-earlier (λ f. f ≡ Write) (λ e. absurd cc) (λ e. absurd cc) (λ cause e. absurd cc) fault h.0

-- ---- an earlier index

-- what is known from before: the broken packages of the earlier index, where there is one
abbrev pub Knows : Settings → Option Input → Input → Option (List BrokenView) → Type 0
Knows settings None background before = before ≡ None
Knows settings (Some earlier) background before = (broken : List BrokenView) × (before ≡ Some broken) × IfIndexed settings earlier background (WereBroken settings broken)

fails-behind : (settings : Settings) (earlier : Option Input) (text background : Input) (before : Option (List BrokenView)) (w : Bool) (fault : RunFault) → Knows settings earlier background before
    → FailsAlone settings text background w fault → Fails settings earlier text background w fault
fails-behind settings None text background before w fault known h = h
fails-behind settings (Some earlier) text background before w fault known h =
    inr ((known.2.0, IfSome_then earlier.text known.2.1 (λ a told. IfSome_then (behind settings background).text told (λ b is. (is.0, is.1, tt)))), h)

-- what follows of the report on an index that was read
report_told : (settings : Settings) (earlier : Option Input) (text background : Input) (before : Option (List BrokenView)) (index : IndexView) (output : List ℕ) (summary : Summary)
    (P : Option (List ℕ) → List ℕ → List ℕ → Type 0) → Knows settings earlier background before → ReadsAs settings text background index → IsReportOn before settings index output summary
    → ((was : Option (List ℕ)) (bytes more : List ℕ) → IsReport settings was bytes more output summary → P was bytes more) → IfAllTold settings earlier text background P
report_told settings None text background before index output summary P known reads on follows =
    let On : IndexView → Type 0 = λ view. IsReportOn before settings view output summary in
    let here = told_index settings text background On (as-indexed settings text background index On reads on) in
    IfSome_then text.text here (λ a told. IfSome_then (behind settings background).text told (λ b has. follows None a b (record { before = before; was = known; has = has })))
report_told settings (Some earlier) text background before index output summary P known reads on follows =
    let On : IndexView → Type 0 = λ view. IsReportOn before settings view output summary in
    let here = told_index settings text background On (as-indexed settings text background index On reads on) in
    let there = told_index settings earlier background (WereBroken settings known.0) known.2 in
    IfSome_then earlier.text there
    (λ w was.
    IfSome_then text.text here
    (λ a told.
    both_told (behind settings background).text was told (λ b known_there has. follows (Some w) a b (record { before = before; was = (known.0, known.1, known_there); has = has }))))

-- ---- the run

-- a fault of an index is none of writing
unwritten : (settings : Settings) (text background : Input) (fault : RunFault) → FailsToIndex settings text background fault → fault ≡ Write → ⊥
unwritten settings text background fault h e = subst (λ (f : RunFault). FailsToIndex settings text background f) e h

-- there is no index
pub runs-unindexed : (settings : Settings) (earlier : Option Input) (text background : Input) (before : Option (List BrokenView)) (writer : Written) (fault : RunFault) → Knows settings earlier background before
    → FailsToIndex settings text background fault → Keeps writer.held writer.now → RunsOn settings earlier text background writer (Err fault)
runs-unindexed settings earlier text background before writer fault known h kept = record {
  report = tt;
  flushed = tt;
  unfailed = tt;
  refused = fails-behind settings earlier text background before writer.failed fault known (indexing-fails settings text background writer.failed fault h);
  left = (λ other. kept, λ is. absurd (unwritten settings text background fault h is));
}

-- there is one
pub runs-indexed : (settings : Settings) (earlier : Option Input) (text background : Input) (before : Option (List BrokenView)) (index : IndexView) (writer : Written) (outcome : Result Summary RunFault)
    → Knows settings earlier background before → ReadsAs settings text background index → background.failed ≡ false → IfSome earlier (λ source. source.failed ≡ false)
    → Tells before settings index writer outcome → RunsOn settings earlier text background writer outcome
runs-indexed settings earlier text background before index writer (Ok summary) known reads unfailed unmarked tells = record {
  report =
      let made = tells.report in
      report_told settings earlier text background before index made.0 summary _ known reads made.1 (λ was a b is. (made.0, is, made.2));
  flushed = tells.flushed;
  unfailed = (reads.0.0.0, unfailed, unmarked, tells.unfailed);
  refused = tt;
  left = tt;
}
runs-indexed settings earlier text background before index writer (Err fault) known reads unfailed unmarked tells = record {
  report = tt;
  flushed = tt;
  unfailed = tt;
  refused = fails-behind settings earlier text background before writer.failed fault known (write-fails settings text background index writer.failed fault reads tells.refused);
  left = (
    tells.kept,
    λ is.
        let front = tells.front is in
        report_told settings earlier text background before index front.0 front.1 _ known reads front.2 (λ was a b has. (front.0, front.1, has, front.3)),
  );
}

-- ---- faults of an earlier index

earlier-unwritten : (settings : Settings) (earlier background : Input) (cause : RunFault) → FailsToIndex settings earlier background cause → earlier_fault cause ≡ Write → ⊥
earlier-unwritten settings earlier background Write h is = h
earlier-unwritten settings earlier background cause h is = absurd cc

-- there is no earlier index
pub runs-behind : (settings : Settings) (earlier text background : Input) (writer : Written) (fault : RunFault) → text.failed ≡ false → FailsEarlier settings earlier background fault
    → Keeps writer.held writer.now → RunsOn settings (Some earlier) text background writer (Err fault)
runs-behind settings earlier text background writer fault unmarked h kept = record {
  report = tt;
  flushed = tt;
  unfailed = tt;
  refused = inl (unmarked, h);
  left = (λ other. kept, λ is. absurd (earlier-unwritten settings earlier background h.0 h.2 (sym h.1 ∙ is)));
}

-- ---- reads that may fail

-- where a failed read of the earlier index is told, one may fail
pub earlier-honest : (settings : Settings) (earlier background : Input) (may : Bool) (cause : RunFault) → FailsToIndex settings earlier background cause → (cause ≡ Read → may ≡ true)
    → earlier_fault cause ≡ EarlierRead → may ≡ true
earlier-honest settings earlier background may Read h honest e = honest refl
earlier-honest settings earlier background may EarlierRead h honest e = absurd h
earlier-honest settings earlier background may cause h honest e = absurd cc

-- and so it is with one of the background
pub background-honest : (may : Bool) (cause : RunFault) → (cause ≡ BackgroundRead → may ≡ true) → earlier_fault cause ≡ BackgroundRead → may ≡ true
background-honest may BackgroundRead honest e = honest refl
background-honest may cause honest e = absurd cc
