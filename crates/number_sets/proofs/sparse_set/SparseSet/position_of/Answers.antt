use Rattle.std.proofs.Common.{◌≡◌, ◌∙◌, sym, ap, refl, Some, slice_get, length, arith}
use Rattle.std.proofs.lemmas.Option.{MatchOption-at_none, none-some, same_Some, slice_get_past, slice_get_read}
use Rattle.number_sets.specs.Sets.{members_of}
use Rattle.number_sets.proofs.SparseSetLemmas.{lacks_past, lacks_other}
use Rattle.number_sets.proofs.sparse_set.SparseSet.position_of.Goals as goal

pub returns-in_err-position-clause-none : goal.returns-in_err-position-clause-none
returns-in_err-position-clause-none c =
    let looked = c.in_err-position.ensures.lookup in
    rw c.from_residual.ensures
    (ap (λ places. members_of places c.args.number) (sym c.self.view_is)
    ∙ lacks_past c.self.inside.numbers.items c.self.inside.positions.items c.args.number c.self.invariant (omega (arith, looked.3, ap length c.deref.ensures.value)))

pub returns-in-Some-clause-some : goal.returns-in-Some-clause-some
returns-in-Some-clause-some c =
    let looked = c.in-Some.ensures.lookup in
    ap (λ places. slice_get places c.in_ok-position.field-0.now) (sym (c.deref-2.ensures.value ∙ c.self.view_is))
    ∙ (slice_get_read c.deref-2.result.now (length c.deref-2.result.now) c.in_ok-position.field-0.now c.in-Some.other.now refl looked.3.0 looked.1 ∙ ap (λ x. Some x) c.if-other-number.true)

pub returns-in_default-clause-none : goal.returns-in_default-clause-none
returns-in_default-clause-none c =
    let first = c.in_ok-position.ensures.lookup in
    let looked = c.in-Some.ensures.lookup in
    let number_is : slice_get c.self.inside.positions.items c.args.number ≡ Some c.in_ok-position.field-0.now =
    ap (λ numbers. slice_get numbers c.args.number) (sym c.deref.ensures.value)
    ∙ slice_get_read c.deref.result.now (length c.deref.result.now) c.args.number c.in_ok-position.field-0.now refl first.3.0 first.1 in
    let there : slice_get c.self.inside.numbers.items c.in_ok-position.field-0.now ≡ Some c.in-Some.other.now =
    ap (λ places. slice_get places c.in_ok-position.field-0.now) (sym c.deref-2.ensures.value)
    ∙ slice_get_read c.deref-2.result.now (length c.deref-2.result.now) c.in_ok-position.field-0.now c.in-Some.other.now refl looked.3.0 looked.1 in
    ap (λ places. members_of places c.args.number) (sym c.self.view_is)
    ∙ lacks_other c.self.inside.numbers.items c.self.inside.positions.items c.args.number c.in_ok-position.field-0.now c.self.invariant number_is
    (λ same. c.if-other-number.false (same_Some c.in-Some.other.now c.args.number (sym there ∙ same)))

pub returns-in_default-2-clause-none : goal.returns-in_default-2-clause-none
returns-in_default-2-clause-none c =
    let first = c.in_ok-position.ensures.lookup in
    let looked = c.get-2.ensures.lookup in
    let number_is : slice_get c.self.inside.positions.items c.args.number ≡ Some c.in_ok-position.field-0.now =
    ap (λ numbers. slice_get numbers c.args.number) (sym c.deref.ensures.value)
    ∙ slice_get_read c.deref.result.now (length c.deref.result.now) c.args.number c.in_ok-position.field-0.now refl first.3.0 first.1 in
    let past = MatchOption-at_none _ _ c.in_default.is looked.3 in
    ap (λ places. members_of places c.args.number) (sym c.self.view_is)
    ∙ lacks_other c.self.inside.numbers.items c.self.inside.positions.items c.args.number c.in_ok-position.field-0.now c.self.invariant number_is
    (λ same. none-some c.args.number
    (sym (slice_get_past c.self.inside.numbers.items c.in_ok-position.field-0.now (omega (arith, past, ap length c.deref-2.ensures.value))) ∙ same))
