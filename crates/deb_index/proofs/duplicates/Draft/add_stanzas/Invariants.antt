use Rattle.std.proofs.Common.{◌≡◌, ◌≤◌, length}
use Rattle.deb_index.specs.Built.{IsBuilt, draft_view}
use Rattle.deb_index.specs.Reading.{read_behind, stanza_limit}
use Rattle.deb_index.proofs.StepLemmas.{Continues}
use Rattle.deb_index.proofs.RoomLemmas.{IsRoomy}
use Rattle.deb_index.proofs.duplicates.Draft.add_stanzas.Given as goal

abbrev pub invariant-stanzas : goal.invariant-stanzas
invariant-stanzas l = record {
  built : IsBuilt l.self;
  so_far : Continues (draft_view l.initial.self).arch l.before (read_behind (draft_view l.initial.self) l.before l.initial.reader.stanzas) (draft_view l.self) l.reader;
  roomy : IsRoomy l.before (draft_view l.self) l.reader;
  same : (draft_view l.self).arch ≡ (draft_view l.initial.self).arch;
  few : (draft_view l.self).stanzas ≤ stanza_limit;
}

abbrev pub decreases-stanzas : goal.decreases-stanzas
decreases-stanzas l = length l.reader.stanzas
