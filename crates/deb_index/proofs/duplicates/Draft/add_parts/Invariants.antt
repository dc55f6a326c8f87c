use Rattle.std.proofs.Common.{◌≡◌, ◌≤◌, ◌-◌, length}
use Rattle.std.specs.List.{AllByRecursion, flat_map}
use Rattle.std.specs.Vec.Iter.{into_iter_items, into_iter_len}
use Rattle.deb_index.specs.Built.{IsBuilt, draft_view, HasRoomFor, IsForeseen, part_stanzas}
use Rattle.deb_index.specs.Reading.{byte_limit, continued, read_behind, readings, stanza_limit}
use Rattle.deb_index.proofs.duplicates.Draft.add_parts.Given as goal

abbrev pub invariant-loop-part : goal.invariant-loop-part
invariant-loop-part l = record {
  built : IsBuilt l.self;
  so_far : continued (draft_view l.self) (readings (draft_view l.initial.self).arch l.before ((draft_view l.self).stanzas - l.before) (flat_map part_stanzas (into_iter_items l.part-iterator))) ≡ read_behind (draft_view l.initial.self) l.before (flat_map part_stanzas (into_iter_items l.initial.part-iterator));
  same : (draft_view l.self).arch ≡ (draft_view l.initial.self).arch;
  begun : l.before ≤ (draft_view l.self).stanzas;
  few : (draft_view l.self).stanzas ≤ stanza_limit;
  room : HasRoomFor (draft_view l.self) (flat_map part_stanzas (into_iter_items l.part-iterator));
  short : AllByRecursion (λ part. length part.text.now ≤ byte_limit) (into_iter_items l.part-iterator);
  foreseen : AllByRecursion (IsForeseen (draft_view l.initial.self).arch) (into_iter_items l.part-iterator);
  len : into_iter_len l.part-iterator ≡ length (into_iter_items l.part-iterator);
}
