use Rattle.std.proofs.Common.{◌≡◌, ◌++◌, ◌∷◌, ◌∙◌, [], ap, length, length-append, arith, refl}
use Rattle.std.specs.Option.{option_map}
use Rattle.number_sets.proofs.EndLemmas.{row-next, still-ends}
use Rattle.number_sets.proofs.rows.RowStore.push.Goals as goal

pub invariant_of-self : goal.invariant_of-self
invariant_of-self c = rw c.reserve.ensures.items c.self.invariant

pub invariant_of-self-in_err-reserve-2 : goal.invariant_of-self-in_err-reserve-2
invariant_of-self-in_err-reserve-2 c = rw (c.reserve.ensures.items, c.reserve-2.ensures.items) c.self.invariant

pub invariant_of-self-2 : goal.invariant_of-self-2
invariant_of-self-2 c =
    let r = c.self.inside in
    let more = c.extend_from_slice.new.self in
    let counted = more.ok in
    let long = ap length c.in_ok-extend_from_slice.ensures.items in
    rw (c.push_reserved.ensures.items, c.push_reserved-2.ensures.items, c.reserve.ensures.items, c.reserve-2.ensures.items)
    (still-ends r.places.items r.ends.items r.kept.items c.self.invariant.0 c.self.invariant.1 c.len.result (length more.items) c.is_some.result (omega arith) (omega (arith, long, length-append r.places.items c.unwrap_or.result.now)))

pub returns-clause-ok : goal.returns-clause-ok
returns-clause-ok c =
    let r = c.self.inside in
    let counted = c.extend_from_slice.new.self.ok in
    let long = ap length c.in_ok-extend_from_slice.ensures.items in
    let places = c.unwrap_or.result.now in
    let end : c.len.result ≡ length (r.places.items ++ places) = omega (arith, long) in
    rw (c.push_reserved.ensures.items, c.push_reserved-2.ensures.items, c.reserve.ensures.items, c.reserve-2.ensures.items, c.in_ok-extend_from_slice.ensures.items)
    (row-next r.places.items r.ends.items r.kept.items c.self.invariant.0 c.self.invariant.1 c.len.result (λ r. r.now) c.args.row _ _ c.is_some.result c.unwrap_or.ensures refl c.is_some.ensures end
    ∙ ap (λ rows. rows ++ option_map (λ r. r.now) c.args.row ∷ []) c.self.view_is)
