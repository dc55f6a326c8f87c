use Rattle.std.proofs.Common.{◌∙◌, ap, arith, length, refl}
use Rattle.std.proofs.lemmas.Result.{err_from_is_err_and}
use Rattle.deb_input.proofs.DeviceLemmas.{consumes_held, consumes_nothing, consumes_over}
use Rattle.deb_input.proofs.PieceLemmas.{fails-at-read, never-over}
use Rattle.deb_input.proofs.input.read_all.Goals as goal

pub reads-init : goal.reads-init
reads-init g c = (rw c.new-held.ensures (consumes_nothing _), refl, omega (arith, ap length c.new-held.ensures), refl)

pub reads-preserved : goal.reads-preserved
reads-preserved g c =
    let full = c.in_ok-read_more.ensures.full.0 c.if-not-branch.false in
    (consumes_held _ _ _ _ _ c.reads.invariant.0 c.in_ok-read_more.ensures.bytes, c.in_ok-read_more.ensures.mark ∙ c.reads.invariant.1, omega arith, c.read_more.ensures.steady ∙ c.reads.invariant.3)

pub returns-then-not-branch-clause-bytes : goal.returns-then-not-branch-clause-bytes
returns-then-not-branch-clause-bytes g c = rw c.into_bytes.ensures (consumes_held _ _ _ _ _ c.reads.invariant.0 c.in_ok-read_more.ensures.bytes)

pub returns-then-not-branch-clause-end : goal.returns-then-not-branch-clause-end
returns-then-not-branch-clause-end g c = (c.in_ok-read_more.ensures.full.1 c.if-not-branch.true).1

pub returns-then-not-branch-clause-within : goal.returns-then-not-branch-clause-within
returns-then-not-branch-clause-within g c =
    let fewer = (c.in_ok-read_more.ensures.full.1 c.if-not-branch.true).0 in
    omega (arith, ap length c.into_bytes.ensures)

pub returns-in_err-read_more-clause-refused : goal.returns-in_err-read_more-clause-refused
returns-in_err-read_more-clause-refused g c =
    let p = err_from_is_err_and c.from_residual.result c.from_residual.ensures.1 in
    rw (p.1, p.2) (fails-at-read (g.S.Source.remaining c.args.reader.now) (g.S.Source.failed c.args.reader.now) (g.S.Source.failed c.reads.reader) (g.S.Source.failed c.read_more.new.reader)
    c.args.limit c.in_err-read_more.field-0.0 c.reads.invariant.1 c.in_err-read_more.ensures.refused)

pub returns-in_err-read_more-clause-over : goal.returns-in_err-read_more-clause-over
returns-in_err-read_more-clause-over g c =
    let p = err_from_is_err_and c.from_residual.result c.from_residual.ensures.1 in
    rw (p.1, p.2) (never-over _ _ _ _ _ _ c.in_err-read_more.ensures.refused)

pub returns-clause-refused : goal.returns-clause-refused
returns-clause-refused g c = (c.reads.invariant.1, consumes_over _ _ _ _ c.reads.invariant.0 (omega arith))

pub returns-clause-over : goal.returns-clause-over
returns-clause-over g c = (c.reads.held, omega arith, c.reads.invariant.0)
