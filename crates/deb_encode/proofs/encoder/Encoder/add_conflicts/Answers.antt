use Rattle.std.proofs.Common.{◌≡◌, ℕ, ◌<◌, ◌≤◌, true, List, All, length, sym, subst}
use Rattle.std.proofs.lemmas.Bool.{false≢true}
use Rattle.std.proofs.lemmas.Result.{on_ok_weaker}
use Rattle.deb_index.specs.Constraints.{IsAlone}
use Rattle.number_sets.specs.Sets.{members_of}
use Rattle.number_sets.proofs.ListMembers.{take_whole}
use Rattle.deb_encode.specs.declared.play.Play.{Play}
use Rattle.deb_encode.specs.declared.gathered.Entry.{Entry}
use Rattle.deb_encode.specs.Exclusions.{AddsWide, IsWide, EntryHolds}
use Rattle.deb_encode.proofs.EncoderLemmas.{tells_none, tells_as, tells_both}
use Rattle.deb_encode.proofs.Each.{each_none, each_more, each_whole}
use Rattle.deb_encode.proofs.WideEntries.{wide_none, wide_place, all_wide, entries_say}
use Rattle.deb_encode.specs.Encoders.{Tells, all_places}
use Rattle.deb_encode.proofs.encoder.Encoder.add_conflicts.Goals as goal
use Rattle.deb_encode.proofs.encoder.Encoder.add_conflicts.Goals.{then-not-is_alone+in_ok-add_entries, else-not-is_alone}

pub loop-number-init : goal.loop-number-init
loop-number-init c = record { adds = each_none _ c.args.self.now; wide = wide_none c.args.self.now.play.index.now _ c.clear.new.self.items (λ q j never is_wide. absurd (false≢true never)) }

pub loop-number-preserved : goal.loop-number-preserved
loop-number-preserved c =
    let index = c.args.self.now.play.index.now in
    let places : List ℕ = all_places c.args.self.now.play in
    let i = c.loop-number.number in
    let place = c.place-place.result in
    let inside : i < length places = rw (sym c.count-number-end.ensures) c.loop-number-test.true in
    let entries : List Entry = c.loop-number.gathered.entries.items in
    elim c.if-not-is_alone.branch [
      | then-not-is_alone+in_ok-add_entries w ↦
          let Wide : Play → Type 0 = λ play. AddsWide play.index.now (λ q j. place ≡ q) entries w.add_entries.new.entries.items in
          rw w.self-is
          (rw w.gathered-is
          (record {
            adds = each_more _ places i place c.args.self.now c.loop-number.self w.add_entries.new.self inside c.place-place.ensures.at c.loop-number.invariant.adds w.in_ok-add_entries.ensures.adds;
            wide =
                wide_place index places i place inside c.place-place.ensures.at c.clear.new.self.items entries w.add_entries.new.entries.items c.loop-number.invariant.wide
                (subst Wide c.loop-number.invariant.adds.same.play w.in_ok-add_entries.ensures.wide);
          }))
      | else-not-is_alone w ↦
          let alone : IsAlone index place = c.is_alone.ensures w.if-not-is_alone.false in
          let Alone : Play → Type 0 = λ play. IsAlone play.index.now place in
          let alone_now : IsAlone c.loop-number.self.play.index.now place = subst Alone (sym c.loop-number.invariant.adds.same.play) alone in
          rw w.self-is
          (rw w.gathered-is
          (record {
            adds =
                each_more _ places i place c.args.self.now c.loop-number.self c.loop-number.self inside c.place-place.ensures.at c.loop-number.invariant.adds
                (tells_none _ c.loop-number.self (λ vars j less narrow has q is_in hit. alone_now.hits_none j less q hit));
            wide =
                wide_place index places i place inside c.place-place.ensures.at c.clear.new.self.items entries entries c.loop-number.invariant.wide
                (wide_none index (λ q j. place ≡ q) entries (λ q j same is_wide. subst (IsAlone index) same alone));
          }))
    ]

pub add_runs-requires : goal.add_runs-requires
add_runs-requires c =
    let Wide : Play → List Entry → Type 0 = λ play entries. All (IsWide play.index.now) entries in
    let all : Wide c.args.self.now.play c.loop-number.gathered.entries.items = all_wide c.args.self.now.play.index.now _ c.clear.new.self.items c.loop-number.gathered.entries.items c.clear.ensures.items c.loop-number.invariant.wide in
    let Of : Play → Type 0 = λ play. Wide play c.deref.result.now in
    subst Of (sym c.loop-number.invariant.adds.same.play) (subst (Wide c.args.self.now.play) (sym c.deref.ensures.value) all)

pub returns : goal.returns
returns c =
    let Of : List Entry → Type 0 = λ list. Tells (λ play set. All (EntryHolds play.index.now set) list) c.loop-number.self c.add_runs.new.self in
    let count : length (all_places c.args.self.now.play) ≤ c.loop-number.number = rw (sym c.count-number-end.ensures) c.loop-number-test.false in
    let Wide : List ℕ → Type 0 = λ places. AddsWide c.args.self.now.play.index.now (λ q j. members_of places q ≡ true) c.clear.new.self.items c.loop-number.gathered.entries.items in
    on_ok_weaker c.add_runs.result
    (λ added. tells_as _ _ c.args.self.now c.add_runs.new.self
    (λ vars. entries_say c.args.self.now.play.index.now c.args.self.now.play.forced.now c.args.self.now.play.candidates.now vars c.clear.new.self.items c.loop-number.gathered.entries.items c.clear.ensures.items (subst Wide (take_whole (all_places c.args.self.now.play) c.loop-number.number count) c.loop-number.invariant.wide))
    (tells_both _ _ c.args.self.now c.loop-number.self c.add_runs.new.self
    (each_whole _ (all_places c.args.self.now.play) c.loop-number.number c.args.self.now c.loop-number.self count c.loop-number.invariant.adds)
    (subst Of c.deref.ensures.value added))) c.add_runs.ensures
