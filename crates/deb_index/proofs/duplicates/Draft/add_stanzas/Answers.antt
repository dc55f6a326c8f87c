use Rattle.std.proofs.Common.{◌≡◌, ◌≤◌, ◌-◌, ◌∙◌, List, ℕ, Err, ap, sym, subst, refl, arith}
use Rattle.std.proofs.lemmas.Result.{err_from_is_err_and}
use Rattle.deb_index.specs.Packages.{IndexView}
use Rattle.deb_index.specs.Built.{draft_view}
use Rattle.deb_index.specs.Reading.{Steps, continued, readings, reading_view, stanza_limit}
use Rattle.deb_index.proofs.StepLemmas.{continues-end, continues-fault, continues-more, steps-fewer}
use Rattle.deb_index.proofs.RoomLemmas.{arch-kept, read-few, read-room, stays-few, stays-roomy}
use Rattle.deb_index.proofs.duplicates.Draft.add_stanzas.Goals as goal

pub stanzas-init : goal.stanzas-init
stanzas-init c =
    let v = draft_view c.args.self.now in
    let count : c.args.reader.count ≡ v.stanzas - c.args.before = omega (arith, c.requires.counts) in
    record {
      built = c.requires.built;
      so_far = record { gives = ap (λ n. continued v (readings v.arch c.args.before n c.args.reader.stanzas)) count };
      roomy = record { counts = c.requires.counts; room = c.requires.room };
      same = refl;
      few = c.requires.few;
    }

pub next_reading-requires : goal.next_reading-requires
next_reading-requires c = omega (arith, c.stanzas.invariant.roomy.counts, c.stanzas.invariant.few)

pub returns-in_err-reading-clause-refused : goal.returns-in_err-reading-clause-refused
returns-in_err-reading-clause-refused c =
    let p = err_from_is_err_and c.from_residual.result c.from_residual.ensures.1 in
    let arch = (draft_view c.args.self.now).arch in
    rw (p.1, p.2) (λ other. continues-fault arch c.args.before _ (draft_view c.stanzas.self) c.stanzas.reader c.stanzas.invariant.so_far c.in_err-reading.field-0.0
    (subst (λ (a : List ℕ). readings a c.args.before c.stanzas.reader.count c.stanzas.reader.stanzas ≡ Err c.in_err-reading.field-0.0) (c.deref.ensures.value ∙ c.stanzas.invariant.same) (c.in_err-reading.ensures.refused other)))

pub add-requires-clause-few : goal.add-requires-clause-few
add-requires-clause-few c =
    let arch = (draft_view c.args.self.now).arch in
    let step = subst (λ (a : List ℕ). Steps a c.args.before c.stanzas.reader (reading_view c.in-Some.reading) c.next_reading.new.reader) (c.deref.ensures.value ∙ c.stanzas.invariant.same) (rw c.in-Some.is at c.in_ok-reading.ensures.takes) in
    read-few arch c.args.before (draft_view c.stanzas.self) c.stanzas.reader c.next_reading.new.reader (reading_view c.in-Some.reading) c.stanzas.invariant.roomy step

pub add-requires-clause-room : goal.add-requires-clause-room
add-requires-clause-room c =
    let arch = (draft_view c.args.self.now).arch in
    let step = subst (λ (a : List ℕ). Steps a c.args.before c.stanzas.reader (reading_view c.in-Some.reading) c.next_reading.new.reader) (c.deref.ensures.value ∙ c.stanzas.invariant.same) (rw c.in-Some.is at c.in_ok-reading.ensures.takes) in
    read-room arch c.args.before (draft_view c.stanzas.self) c.stanzas.reader c.next_reading.new.reader (reading_view c.in-Some.reading) c.stanzas.invariant.roomy step

pub stanzas-smaller : goal.stanzas-smaller
stanzas-smaller c = steps-fewer c.deref.result.now c.args.before c.stanzas.reader c.next_reading.new.reader (reading_view c.in-Some.reading) (rw c.in-Some.is at c.in_ok-reading.ensures.takes)

pub stanzas-preserved : goal.stanzas-preserved
stanzas-preserved c =
    let arch = (draft_view c.args.self.now).arch in
    let old = draft_view c.stanzas.self in
    let new = c.next_reading.new.reader in
    let read = reading_view c.in-Some.reading in
    let inv = c.stanzas.invariant in
    let step = subst (λ (a : List ℕ). Steps a c.args.before c.stanzas.reader read new) (c.deref.ensures.value ∙ inv.same) (rw c.in-Some.is at c.in_ok-reading.ensures.takes) in
    let added = c.in_ok-add.ensures.added in
    record {
      built = c.in_ok-add.ensures.built;
      so_far = rw added (continues-more arch c.args.before _ old c.stanzas.reader inv.so_far new read step);
      roomy = rw added (stays-roomy arch c.args.before old c.stanzas.reader new read inv.roomy step);
      same = ap (λ (v : IndexView). v.arch) added ∙ arch-kept old read ∙ inv.same;
      few = subst (λ (v : IndexView). v.stanzas ≤ stanza_limit) (sym added) (stays-few arch c.args.before old c.stanzas.reader new read inv.roomy step);
    }

pub returns-clause-accepted : goal.returns-clause-accepted
returns-clause-accepted c =
    continues-end (draft_view c.args.self.now).arch c.args.before _ (draft_view c.stanzas.self) c.stanzas.reader c.stanzas.invariant.so_far (rw c.in_default.is at c.in_ok-reading.ensures.ends)
