use Rattle.std.proofs.Common.{rules, ◌-◌, ◌∷◌, ◌∙◌, get_or, Some, ap, length, take, drop, arith}
use Rattle.number_sets.proofs.EndLemmas.{number-within, part-within, row-none, row-some}
use Rattle.number_sets.proofs.rows.RowStore.get.Goals as goal

pub index-requires : goal.index-requires
index-requires c =
    let r = c.self.inside in
    let counted = r.kept.ok in
    omega (arith, c.self.invariant.1, number-within r.places.items r.ends.items r.kept.items c.args.self.now c.args.number c.self.invariant.0 c.self.invariant.1 c.self.view_is c.requires)

pub returns-then-not-index : goal.returns-then-not-index
returns-then-not-index c =
    let r = c.self.inside in
    row-none r.places.items r.ends.items r.kept.items c.args.self.now c.args.number c.self.invariant.0 c.self.invariant.1 c.self.view_is c.requires c.index.result.now c.index.ensures c.if-not-index.true

pub start_of-start-requires : goal.start_of-start-requires
start_of-start-requires c =
    let r = c.self.inside in
    omega (arith, ap length c.deref.ensures.value, number-within r.places.items r.ends.items r.kept.items c.args.self.now c.args.number c.self.invariant.0 c.self.invariant.1 c.self.view_is c.requires)

pub index-end-requires : goal.index-end-requires
index-end-requires c =
    let r = c.self.inside in
    let counted = r.ends.ok in
    omega (arith, c.self.invariant.1, number-within r.places.items r.ends.items r.kept.items c.args.self.now c.args.number c.self.invariant.0 c.self.invariant.1 c.self.view_is c.requires)

pub offset_bounds-deref-start : goal.offset_bounds-deref-start
offset_bounds-deref-start c =
    let r = c.self.inside in
    let start = c.start_of-start.ensures ∙ ap (λ ends. get_or (0 ∷ ends) c.args.number 0) c.deref.ensures.value in
    let part = part-within r.places.items r.ends.items r.kept.items c.args.self.now c.args.number c.self.invariant.0 c.self.invariant.1 c.self.view_is c.requires c.start_of-start.result c.index-end.result.now start c.index-end.ensures in
    search (rules, part.0, part.1)

pub slice_bounds-result-count : goal.slice_bounds-result-count
slice_bounds-result-count c =
    let r = c.self.inside in
    let start = c.start_of-start.ensures ∙ ap (λ ends. get_or (0 ∷ ends) c.args.number 0) c.deref.ensures.value in
    (part-within r.places.items r.ends.items r.kept.items c.args.self.now c.args.number c.self.invariant.0 c.self.invariant.1 c.self.view_is c.requires c.start_of-start.result c.index-end.result.now start c.index-end.ensures).0

pub slice_bounds-result-start : goal.slice_bounds-result-start
slice_bounds-result-start c =
    let r = c.self.inside in
    let start = c.start_of-start.ensures ∙ ap (λ ends. get_or (0 ∷ ends) c.args.number 0) c.deref.ensures.value in
    (part-within r.places.items r.ends.items r.kept.items c.args.self.now c.args.number c.self.invariant.0 c.self.invariant.1 c.self.view_is c.requires c.start_of-start.result c.index-end.result.now start c.index-end.ensures).0

pub slice_bounds-result-end : goal.slice_bounds-result-end
slice_bounds-result-end c =
    let r = c.self.inside in
    let start = c.start_of-start.ensures ∙ ap (λ ends. get_or (0 ∷ ends) c.args.number 0) c.deref.ensures.value in
    let part = part-within r.places.items r.ends.items r.kept.items c.args.self.now c.args.number c.self.invariant.0 c.self.invariant.1 c.self.view_is c.requires c.start_of-start.result c.index-end.result.now start c.index-end.ensures in
    search (rules, part.0, part.1)

pub returns : goal.returns
returns c =
    let r = c.self.inside in
    let start = c.start_of-start.ensures ∙ ap (λ ends. get_or (0 ∷ ends) c.args.number 0) c.deref.ensures.value in
    ap (λ places. Some (take (c.index-end.result.now - c.start_of-start.result) (drop c.start_of-start.result places))) c.deref-2.ensures.value
    ∙ row-some r.places.items r.ends.items r.kept.items c.args.self.now c.args.number c.self.invariant.0 c.self.invariant.1 c.self.view_is c.requires c.start_of-start.result c.index-end.result.now start c.index-end.ensures c.index.result.now c.index.ensures c.if-not-index.false
