use Rattle.std.proofs.Common.{◌≡◌, ◌≤◌, length, map}
use Rattle.deb_control.specs.Stanzas.{stanzas_of}
use Rattle.deb_index.specs.Reading.{reading_view, readings, stanza_limit}
use Rattle.deb_index.proofs.StepLemmas.{with_front}
use Rattle.deb_index.proofs.parts.read_stanzas.Given as goal

abbrev pub invariant-loop-found : goal.invariant-loop-found
invariant-loop-found l = record {
  so_far : readings l.arch 0 0 (stanzas_of l.text) ≡ with_front (map reading_view l.found.items) (readings l.arch 0 l.reader.count l.reader.stanzas);
  few : l.reader.count ≤ stanza_limit;
}

abbrev pub decreases-loop-found : goal.decreases-loop-found
decreases-loop-found l = length l.reader.stanzas
