use Rattle.std.proofs.Common.{◌≤◌, ◌+◌, ◌-◌, ◌∙◌, Ok, ap, sym, map, length, arith}
use Rattle.std.proofs.lemmas.List.{length-map}
use Rattle.deb_index.specs.Packages.{IndexView}
use Rattle.deb_index.specs.Built.{draft_view, part_stanzas}
use Rattle.deb_index.specs.Reading.{continued, reading_view, stanza_limit}
use Rattle.deb_index.proofs.ForeseenLemmas.{foreseen}
use Rattle.deb_index.proofs.TakenLemmas.{have-room, length-read}
use Rattle.deb_index.proofs.duplicates.Draft.add_part.Goals as goal

pub add_readings-requires-clause-room : goal.add_readings-requires-clause-room
add_readings-requires-clause-room c =
    let v = draft_view c.args.self.now in
    let n = v.stanzas - c.args.before in
    let stanzas = part_stanzas c.args.part in
    let read = map reading_view c.in-Some.found.items in
    let ahead = rw c.in-Some.is at c.requires.foreseen in
    let few : c.args.before + n + length stanzas ≤ stanza_limit =
    omega (arith, c.requires.begun, c.len.ensures, c.if-len-self.true, c.in-Some.found.ok, length-map c.in-Some.found.items reading_view, length-read v.arch 0 0 stanzas read ahead) in
    have-room v.arch c.args.before n stanzas read v (foreseen v.arch 0 0 c.args.before n stanzas read ahead few) (omega (arith, c.requires.begun)) c.requires.room

pub returns-then-len-self-clause-accepted : goal.returns-then-len-self-clause-accepted
returns-then-len-self-clause-accepted c =
    let v = draft_view c.args.self.now in
    let n = v.stanzas - c.args.before in
    let stanzas = part_stanzas c.args.part in
    let read = map reading_view c.in-Some.found.items in
    let ahead = rw c.in-Some.is at c.requires.foreseen in
    let few : c.args.before + n + length stanzas ≤ stanza_limit =
    omega (arith, c.requires.begun, c.len.ensures, c.if-len-self.true, c.in-Some.found.ok, length-map c.in-Some.found.items reading_view, length-read v.arch 0 0 stanzas read ahead) in
    ap (continued v) (foreseen v.arch 0 0 c.args.before n stanzas read ahead few) ∙ ap (λ (i : IndexView). Ok i) (sym c.in_ok-add_readings.ensures.added)
