use Rattle.std.proofs.Common.{◌≡◌, true, false, get_or, rules}
use Rattle.deb_control.specs.Fields.{is_colon, is_name_byte}
use Rattle.deb_control.proofs.FieldLemmas.{in-name-more, name-end, parts-bad, parts-none}
use Rattle.deb_control.proofs.field.find_name_end.Goals as goal

pub bytes-init : goal.bytes-init
bytes-init c = c.letters_len-i.ensures.name

pub returns-then-b-eq58-clause-end : goal.returns-then-b-eq58-clause-end
returns-then-b-eq58-clause-end c =
    let colon : is_colon (get_or c.args.line.now c.bytes.i 0) ≡ true = search rules in
    name-end c.args.line.now c.bytes.i c.bytes-test.true c.bytes.invariant colon

pub returns-then-not-is_name_byte-clause-end : goal.returns-then-not-is_name_byte-clause-end
returns-then-not-is_name_byte-clause-end c =
    let colon : is_colon (get_or c.args.line.now c.bytes.i 0) ≡ false = search rules in
    let bad : is_name_byte (get_or c.args.line.now c.bytes.i 0) ≡ false = search rules in
    parts-bad c.args.line.now c.bytes.i c.bytes-test.true c.bytes.invariant colon bad

pub bytes-preserved : goal.bytes-preserved
bytes-preserved c =
    let colon : is_colon (get_or c.args.line.now c.bytes.i 0) ≡ false = search rules in
    let byte : is_name_byte (get_or c.args.line.now c.bytes.i 0) ≡ true = search rules in
    in-name-more c.args.line.now c.bytes.i c.bytes-test.true c.bytes.invariant colon byte

pub returns-clause-end : goal.returns-clause-end
returns-clause-end c = parts-none c.args.line.now c.bytes.i c.bytes-test.false c.bytes.invariant
