use Rattle.std.proofs.Common.{◌≡◌, map, drop}
use Rattle.deb_control.specs.Fields.{has_repeat}
use Rattle.deb_control.specs.Stanzas.{entry_of}
use Rattle.deb_control.proofs.SeenLemmas.{repeats}
use Rattle.deb_control.proofs.repeat.is_repeating_many.Given as goal

abbrev pub invariant-loop-field : goal.invariant-loop-field
invariant-loop-field l = has_repeat (map entry_of l.fields) ≡ repeats l.seen.keys (map entry_of (drop l.field-index l.fields))
