use Rattle.std.proofs.Common.{◌<◌, ◌∙◌, length, arith, sym}
use Rattle.std.proofs.lemmas.List.{get_or_default}
use Rattle.std.proofs.lemmas.Bool.{ltb-true, ltb-false}
use Rattle.core_extract.proofs.NextOf.{first_is_next, none_there, none_under}
use Rattle.core_extract.proofs.reduction.next_of.Goals as goal

pub returns-in_err-number-clause-none : goal.returns-in_err-number-clause-none
returns-in_err-number-clause-none c =
    let looked = c.in_err-number.ensures.lookup in
    rw c.from_residual.ensures
    (none_there c.args.numbers.now c.args.from c.requires c.first_from.result c.first_from.ensures
    (ltb-false c.first_from.result (length c.args.numbers.now) (sym looked.0)))

pub returns-then-number-lt4294967295-clause-some : goal.returns-then-number-lt4294967295-clause-some
returns-then-number-lt4294967295-clause-some c =
    let inside : c.first_from.result < length c.args.numbers.now = ltb-true c.first_from.result (length c.args.numbers.now) (sym c.in_ok-number.ensures.lookup.0) in
    first_is_next c.args.numbers.now c.args.from c.requires c.first_from.result c.first_from.ensures inside c.in_ok-number.field-0.now
    (c.in_ok-number.ensures.lookup.1 ∙ get_or_default c.args.numbers.now c.first_from.result c.in_ok-number.field-0.now 0 inside)
    c.if-number-lt4294967295.true

pub returns-else-number-lt4294967295-clause-none : goal.returns-else-number-lt4294967295-clause-none
returns-else-number-lt4294967295-clause-none c =
    let inside : c.first_from.result < length c.args.numbers.now = ltb-true c.first_from.result (length c.args.numbers.now) (sym c.in_ok-number.ensures.lookup.0) in
    none_under c.args.numbers.now c.args.from c.requires c.first_from.result c.first_from.ensures inside
    (omega (arith, c.if-number-lt4294967295.false, c.in_ok-number.ensures.lookup.1, get_or_default c.args.numbers.now c.first_from.result c.in_ok-number.field-0.now 0 inside))
