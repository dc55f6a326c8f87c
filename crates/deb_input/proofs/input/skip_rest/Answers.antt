use Rattle.std.proofs.Common.{◌≤◌, ◌∙◌, [], ap, arith, length, refl}
use Rattle.std.proofs.lemmas.List.{drop_all}
use Rattle.std.proofs.lemmas.Result.{err_from_is_err_and}
use Rattle.deb_input.proofs.DeviceLemmas.{consumes_nothing, consumes_over, skips}
use Rattle.deb_input.proofs.PieceLemmas.{fails-at-read}
use Rattle.deb_input.proofs.input.skip_rest.Goals as goal

pub reads-init : goal.reads-init
reads-init g c = (([], consumes_nothing _, omega arith), c.new-held.ensures, refl, refl)

pub reads-preserved : goal.reads-preserved
reads-preserved g c =
    let full = c.in_ok-read_more.ensures.full.0 c.if-not-branch.false in
    let none = ap length c.reads.invariant.1 in
    let within : length c.read_more.new.self ≤ c.min-count.result = omega (arith, full, none) in
    let more = skips _ _ _ _ _ _ c.reads.invariant.0.1 c.reads.invariant.1 c.in_ok-read_more.ensures.bytes in (
      (more.0, more.1, omega (arith, more.2, full, none, c.reads.invariant.0.2)),
      c.drop_front.ensures ∙ drop_all _ _ within,
      c.in_ok-read_more.ensures.mark ∙ c.reads.invariant.2,
      c.read_more.ensures.steady ∙ c.reads.invariant.3,
    )

pub drop_front-requires : goal.drop_front-requires
drop_front-requires g c =
    let full = c.in_ok-read_more.ensures.full.0 c.if-not-branch.false in
    omega (arith, full)

pub returns-then-not-branch-clause-bytes : goal.returns-then-not-branch-clause-bytes
returns-then-not-branch-clause-bytes g c =
    let fewer = (c.in_ok-read_more.ensures.full.1 c.if-not-branch.true).0 in
    let none = ap length c.reads.invariant.1 in
    let more = skips _ _ _ _ _ _ c.reads.invariant.0.1 c.reads.invariant.1 c.in_ok-read_more.ensures.bytes in
    (more.0, more.1, omega (arith, more.2, fewer, none, c.reads.invariant.0.2))

pub returns-then-not-branch-clause-end : goal.returns-then-not-branch-clause-end
returns-then-not-branch-clause-end g c = (c.in_ok-read_more.ensures.full.1 c.if-not-branch.true).1

pub returns-in_err-read_more-clause-refused : goal.returns-in_err-read_more-clause-refused
returns-in_err-read_more-clause-refused g c =
    let p = err_from_is_err_and c.from_residual.result c.from_residual.ensures.1 in
    rw (p.1, p.2) (fails-at-read (g.S.Source.remaining c.args.reader.now) (g.S.Source.failed c.args.reader.now) (g.S.Source.failed c.reads.reader) (g.S.Source.failed c.read_more.new.reader)
    c.args.limit c.in_err-read_more.field-0.0 c.reads.invariant.2 c.in_err-read_more.ensures.refused)

pub returns-clause-refused : goal.returns-clause-refused
returns-clause-refused g c = (c.reads.invariant.2, consumes_over _ _ _ _ c.reads.invariant.0.1 (omega arith))
