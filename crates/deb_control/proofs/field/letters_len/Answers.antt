use Rattle.std.proofs.Common.{arith, rules, ◌≡◌, ◌+◌, true, get_or}
use Rattle.deb_control.specs.Fields.{is_past_colon}
use Rattle.deb_control.proofs.FieldLemmas.{in-name-none, in-name-past}
use Rattle.deb_control.proofs.field.letters_len.Goals as goal

pub loop-len-init : goal.loop-len-init
loop-len-init c = record { within = omega arith; name = in-name-none c.args.line.now }

pub returns-then-not-is_past_colon-2-clause-name : goal.returns-then-not-is_past_colon-2-clause-name
returns-then-not-is_past_colon-2-clause-name c =
    let line = c.args.line.now in
    let len = c.loop-len.len in
    let past-0 : is_past_colon (get_or line len 0) ≡ true = search rules in
    in-name-past line len (len + 1) (omega (arith, c.loop-len-test.true)) (omega arith) c.loop-len.invariant.name past-0

pub returns-then-not-is_past_colon-3-clause-name : goal.returns-then-not-is_past_colon-3-clause-name
returns-then-not-is_past_colon-3-clause-name c =
    let line = c.args.line.now in
    let len = c.loop-len.len in
    let past-0 : is_past_colon (get_or line len 0) ≡ true = search rules in
    let past-1 : is_past_colon (get_or line (len + 1) 0) ≡ true = search rules in
    let name-1 = in-name-past line len (len + 1) (omega (arith, c.loop-len-test.true)) (omega arith) c.loop-len.invariant.name past-0 in
    in-name-past line (len + 1) (len + 2) (omega (arith, c.loop-len-test.true)) (omega arith) name-1 past-1

pub returns-then-not-is_past_colon-4-clause-name : goal.returns-then-not-is_past_colon-4-clause-name
returns-then-not-is_past_colon-4-clause-name c =
    let line = c.args.line.now in
    let len = c.loop-len.len in
    let past-0 : is_past_colon (get_or line len 0) ≡ true = search rules in
    let past-1 : is_past_colon (get_or line (len + 1) 0) ≡ true = search rules in
    let past-2 : is_past_colon (get_or line (len + 2) 0) ≡ true = search rules in
    let name-1 = in-name-past line len (len + 1) (omega (arith, c.loop-len-test.true)) (omega arith) c.loop-len.invariant.name past-0 in
    let name-2 = in-name-past line (len + 1) (len + 2) (omega (arith, c.loop-len-test.true)) (omega arith) name-1 past-1 in
    in-name-past line (len + 2) (len + 3) (omega (arith, c.loop-len-test.true)) (omega arith) name-2 past-2

pub loop-len-preserved : goal.loop-len-preserved
loop-len-preserved c =
    let line = c.args.line.now in
    let len = c.loop-len.len in
    let past-0 : is_past_colon (get_or line len 0) ≡ true = search rules in
    let past-1 : is_past_colon (get_or line (len + 1) 0) ≡ true = search rules in
    let past-2 : is_past_colon (get_or line (len + 2) 0) ≡ true = search rules in
    let past-3 : is_past_colon (get_or line (len + 3) 0) ≡ true = search rules in
    let name-1 = in-name-past line len (len + 1) (omega (arith, c.loop-len-test.true)) (omega arith) c.loop-len.invariant.name past-0 in
    let name-2 = in-name-past line (len + 1) (len + 2) (omega (arith, c.loop-len-test.true)) (omega arith) name-1 past-1 in
    let name-3 = in-name-past line (len + 2) (len + 3) (omega (arith, c.loop-len-test.true)) (omega arith) name-2 past-2 in
    record { within = omega (arith, c.loop-len-test.true); name = in-name-past line (len + 3) (len + 4) (omega (arith, c.loop-len-test.true)) (omega arith) name-3 past-3 }
