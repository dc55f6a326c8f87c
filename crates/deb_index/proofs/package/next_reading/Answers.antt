use Rattle.std.proofs.lemmas.Result.{err_from_is_err_and}
use Rattle.std.proofs.Common.{◌+◌, arith}
use Rattle.deb_index.proofs.NextLemmas.{refused, steps, too-many, unread}
use Rattle.deb_index.proofs.package.next_reading.Goals as goal

pub returns-in-Ok-None-clause-ends : goal.returns-in-Ok-None-clause-ends
returns-in-Ok-None-clause-ends c = let p = rw c.in-Ok-None.field-0-is at c.in-Ok-None.ensures.ends in p.0

pub returns-then-total-from-clause-refused : goal.returns-then-total-from-clause-refused
returns-then-total-from-clause-refused c =
    let t = rw c.in-Ok-Some.field-0-is at c.in-Ok-Some.ensures.takes in
    let counts = t.counts in
    λ other. too-many c.args.arch.now c.args.before c.args.reader.now c.next_stanza.new.self c.in-Ok-Some.stanza t (c.count-number.result + 1) (omega (arith, counts)) (omega arith)

pub returns-in_ok-reading-in-Ok-Some-clause-takes : goal.returns-in_ok-reading-in-Ok-Some-clause-takes
returns-in_ok-reading-in-Ok-Some-clause-takes c =
    let t = rw c.in-Ok-Some.field-0-is at c.in-Ok-Some.ensures.takes in
    let counts = t.counts in
    steps c.args.arch.now c.args.before c.args.reader.now c.next_stanza.new.self c.in-Ok-Some.stanza t (c.count-number.result + 1) (omega (arith, counts)) (omega arith) _ c.in_ok-reading-in-Ok-Some.ensures

pub returns-in_err-reading-in-Ok-Some-clause-refused : goal.returns-in_err-reading-in-Ok-Some-clause-refused
returns-in_err-reading-in-Ok-Some-clause-refused c =
    let t = rw c.in-Ok-Some.field-0-is at c.in-Ok-Some.ensures.takes in
    let counts = t.counts in
    let p = err_from_is_err_and c.from_residual.result c.from_residual.ensures.1 in
    rw (p.1, p.2) (unread c.args.arch.now c.args.before c.args.reader.now c.next_stanza.new.self c.in-Ok-Some.stanza t (c.count-number.result + 1) (omega (arith, counts)) (omega arith) c.in_err-reading-in-Ok-Some.field-0.0
    c.in_err-reading-in-Ok-Some.ensures)

pub returns-in-Err-clause-refused : goal.returns-in-Err-clause-refused
returns-in-Err-clause-refused c = rw c.stanza_fault.ensures (refused c.args.arch.now c.args.before c.args.reader.now c.in-Err.error (c.count-number.result + 1) c.in-Err.ensures.refuses (omega arith))
