use Rattle.std.proofs.Common.{◌++◌, ◌∷◌, ◌∙◌, [], ap, arith, length, length-append}
use Rattle.std.specs.Option.{option_map}
use Rattle.number_sets.proofs.ShareLemmas.{number-more, rows-new}
use Rattle.number_sets.proofs.rows.Rows.push.Goals as goal

pub invariant_of-self : goal.invariant_of-self
invariant_of-self c = rw c.reserve.ensures.items c.self.invariant

pub returns-clause-ok : goal.returns-clause-ok
returns-clause-ok c =
    let r = c.self.inside in
    let row = option_map (λ r. r.now) c.args.row in
    rw (c.push_reserved.ensures.items, c.reserve.ensures.items, c.in_ok-push.ensures.ok)
    (rows-new r.store r.numbers.items c.self.invariant.0 row c.len-number.result c.len-number.ensures ∙ ap (λ rows. rows ++ row ∷ []) c.self.view_is)

pub invariant_of-self-2 : goal.invariant_of-self-2
invariant_of-self-2 c =
    let r = c.self.inside in
    let row = option_map (λ r. r.now) c.args.row in
    let longer = length-append r.store (row ∷ []) in
    rw (c.push_reserved.ensures.items, c.reserve.ensures.items, c.in_ok-push.ensures.ok)
    (number-more (length r.store) (length (r.store ++ row ∷ [])) r.numbers.items c.len-number.result c.self.invariant.0 (omega (arith, longer))
    (omega (arith, longer, c.len-number.ensures)) (omega (arith, longer, c.self.invariant.1)))
