use Rattle.std.proofs.Common.{◌≡◌, map}
use Rattle.std.specs.List.{fold}
use Rattle.std.specs.Vec.Iter.{into_iter_items}
use Rattle.deb_index.specs.Built.{IsBuilt, draft_view, HaveRoom}
use Rattle.deb_index.specs.Reading.{reading_view, with_reading}
use Rattle.deb_index.proofs.duplicates.Draft.add_readings.Given as goal

abbrev pub invariant-loop-reading : goal.invariant-loop-reading
invariant-loop-reading l = record {
  built : IsBuilt l.self;
  so_far : fold with_reading (draft_view l.self) (map reading_view (into_iter_items l.reading-iterator)) ≡ fold with_reading (draft_view l.initial.self) (map reading_view (into_iter_items l.initial.reading-iterator));
  room : HaveRoom (draft_view l.self) (map reading_view (into_iter_items l.reading-iterator));
}
