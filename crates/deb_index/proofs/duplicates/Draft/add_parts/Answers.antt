use Rattle.std.proofs.Common.{◌≡◌, ◌≤◌, ◌-◌, ◌∙◌, ℕ, List, Ok, Err, ap, sym, subst, refl, length, arith}
use Rattle.std.specs.List.{AllByRecursion, flat_map}
use Rattle.std.specs.Vec.Iter.{into_iter_items}
use Rattle.std.proofs.lemmas.List.{nil_from_length}
use Rattle.std.proofs.lemmas.Result.{err_from_is_err_and}
use Rattle.deb_control.specs.Stanzas.{stanzas_of}
use Rattle.deb_index.specs.declared.parts.Part.{Part}
use Rattle.deb_index.specs.Built.{draft_view, HasRoomFor, IsForeseen, part_stanzas}
use Rattle.deb_index.specs.Reading.{byte_limit, continued, read_behind, readings}
use Rattle.deb_index.proofs.PartedLemmas.{short-parts}
use Rattle.deb_index.proofs.RoomLemmas.{text-room}
use Rattle.deb_index.proofs.TakenLemmas.{Taken, part-room, parts-end, parts-fault, parts-more, rest-room, taken}
use Rattle.deb_index.proofs.duplicates.Draft.add_parts.Goals as goal

pub loop-part-init : goal.loop-part-init
loop-part-init c =
    let v = draft_view c.args.self.now in
    let gives = c.into_iter-part-iterator.ensures.into_iter_gives in
    let items = into_iter_items c.into_iter-part-iterator.result in
    let text = c.requires.parts.0 in
    let are = c.requires.parts.1 in
    let short = c.requires.parts.2 in
    let whole : flat_map part_stanzas items ≡ stanzas_of text = ap (flat_map part_stanzas) gives.0 ∙ are.stanzas in
    record {
      built = c.requires.built;
      so_far = refl;
      same = refl;
      begun = c.requires.begun;
      few = c.requires.few;
      room = subst (HasRoomFor v) (sym whole) (text-room v text short c.requires.room);
      short = subst (λ (ps : List Part). AllByRecursion (λ part. length part.text.now ≤ byte_limit) ps) (sym gives.0) (short-parts (length text) byte_limit c.args.parts.items short are.short);
      foreseen = subst (λ (ps : List Part). AllByRecursion (IsForeseen v.arch) ps) (sym gives.0) are.foreseen;
      len = omega (arith, gives.1, c.args.parts.ok, ap (λ (ps : List Part). length ps) gives.0);
    }

pub returns-in_err-add_part-clause-refused : goal.returns-in_err-add_part-clause-refused
returns-in_err-add_part-clause-refused c =
    let v = draft_view c.args.self.now in
    let inv = c.loop-part.invariant in
    let part = c.in-Some.part in
    let n = c.loop-part.self.catalog.stanzas - c.args.before in
    let e = c.in_err-add_part.field-0.0 in
    let p = err_from_is_err_and c.from_residual.result c.from_residual.ensures.1 in
    let whole = ap (λ (ps : List Part). read_behind v c.args.before (flat_map part_stanzas ps)) (sym c.into_iter-part-iterator.ensures.into_iter_gives.0) in
    rw (p.1, p.2)
    (λ other. whole ∙ parts-fault v.arch c.args.before n _ (draft_view c.loop-part.self) (into_iter_items c.loop-part.part-iterator) (into_iter_items c.next.new.self) part c.in-Some.ensures.steps.0 inv.so_far e
    (subst (λ (a : List ℕ). continued (draft_view c.loop-part.self) (readings a c.args.before n (part_stanzas part)) ≡ Err e) inv.same (c.in_err-add_part.ensures.refused other)))

pub add_part-requires-clause-room : goal.add_part-requires-clause-room
add_part-requires-clause-room c = part-room (draft_view c.loop-part.self) (into_iter_items c.loop-part.part-iterator) (into_iter_items c.next.new.self) c.in-Some.part c.in-Some.ensures.steps.0 c.loop-part.invariant.room

pub loop-part-preserved : goal.loop-part-preserved
loop-part-preserved c =
    let v = draft_view c.args.self.now in
    let old = draft_view c.loop-part.self in
    let new = draft_view c.add_part.new.self in
    let inv = c.loop-part.invariant in
    let part = c.in-Some.part in
    let items = into_iter_items c.loop-part.part-iterator in
    let rest = into_iter_items c.next.new.self in
    let steps = c.in-Some.ensures.steps in
    let before = c.args.before in
    let n = old.stanzas - before in
    let read = subst (λ (a : List ℕ). continued old (readings a before n (part_stanzas part)) ≡ Ok new) inv.same c.in_ok-add_part.ensures.accepted in
    let t : Taken old (part_stanzas part) new = taken v.arch before n (part_stanzas part) old new read (omega (arith, inv.begun)) in
    let short = subst (λ (ps : List Part). AllByRecursion (λ part. length part.text.now ≤ byte_limit) ps) steps.0 inv.short in
    let foreseen = subst (λ (ps : List Part). AllByRecursion (IsForeseen v.arch) ps) steps.0 inv.foreseen in
    record {
      built = c.in_ok-add_part.ensures.built;
      so_far = parts-more v.arch before n _ old items rest part steps.0 inv.so_far new (new.stanzas - before) read (omega (arith, t.counts, inv.begun));
      same = t.arch ∙ inv.same;
      begun = omega (arith, t.counts, inv.begun);
      few = t.few inv.few;
      room = rest-room old items rest part steps.0 inv.room new t;
      short = short.1;
      foreseen = foreseen.1;
      len = omega (arith, inv.len, steps.1, ap (λ (ps : List Part). length ps) steps.0);
    }

pub returns-clause-accepted : goal.returns-clause-accepted
returns-clause-accepted c =
    let v = draft_view c.args.self.now in
    let inv = c.loop-part.invariant in
    let items = into_iter_items c.loop-part.part-iterator in
    let none = nil_from_length items (sym inv.len ∙ c.in-None.ensures.steps.0) in
    let whole = ap (λ (ps : List Part). read_behind v c.args.before (flat_map part_stanzas ps)) (sym c.into_iter-part-iterator.ensures.into_iter_gives.0) in
    whole ∙ parts-end v.arch c.args.before (c.loop-part.self.catalog.stanzas - c.args.before) _ (draft_view c.loop-part.self) items none inv.so_far
