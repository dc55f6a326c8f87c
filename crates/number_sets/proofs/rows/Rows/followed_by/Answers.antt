use Rattle.std.proofs.Common.{◌+◌, ◌++◌, ◌∙◌, ℕ, List, ap, map}
use Rattle.number_sets.specs.Rows.{rows_by}
use Rattle.number_sets.proofs.ShareLemmas.{rows-two, still-few, still-stored}
use Rattle.number_sets.proofs.rows.Rows.followed_by.Goals as goal

pub invariant_of-result : goal.invariant_of-result
invariant_of-result c =
    let r = c.self.inside in
    let more = c.more.inside in
    rw (c.in_ok-push_behind.ensures, c.deref.ensures.value, c.in_ok-append.ensures) (
      still-stored r.store more.store r.numbers.items more.numbers.items c.self.invariant.0 c.len.result c.len.ensures c.more.invariant.0,
      still-few r.store more.store r.numbers.items more.numbers.items c.self.invariant.0 c.len.result c.len.ensures c.self.invariant.1 c.more.invariant.1,
    )

pub returns : goal.returns
returns c =
    let r = c.self.inside in
    let more = c.more.inside in
    let numbers = c.in_ok-push_behind.ensures ∙ ap (λ (ns : List ℕ). r.numbers.items ++ map (λ n. c.len.result + n) ns) c.deref.ensures.value in
    (λ i. rows_by (c.in_ok-append.ensures i) (numbers i))
    ∙ rows-two r.store more.store r.numbers.items more.numbers.items c.self.invariant.0 c.len.result c.len.ensures
    ∙ (λ i. c.self.view_is i ++ c.more.view_is i)
