use Rattle.std.proofs.Common.{rules, ◌≡◌, ◌<◌, ◌-◌, ◌+◌, ◌∷◌, ◌∙◌, get_or, ap, drop, length, map, sym, take, arith}
use Rattle.std.proofs.lemmas.Bool.{eqb-false, eqb-true}
use Rattle.deb_relation.specs.Relationship.{atom_view}
use Rattle.deb_relation.proofs.Ends.{list-seen, list-within, number-within, single-seen}
use Rattle.deb_relation.proofs.groups.Groups.get.Goals as goal

pub returns-then-is_empty : goal.returns-then-is_empty
returns-then-is_empty c =
    let r = c.self.inside in
    let none : length r.ends.items ≡ 0 = omega (arith, eqb-true r.ends.len 0 (sym c.if-is_empty.ensures), r.ends.ok.0) in
    ap (λ atoms. map atom_view (take (c.args.number + 1 - c.args.number) (drop c.args.number atoms))) c.deref.ensures.value
    ∙ single-seen atom_view r.atoms.items r.ends.items c.args.self.now c.args.number c.self.view_is c.requires none

pub start_of-start-requires : goal.start_of-start-requires
start_of-start-requires c =
    let r = c.self.inside in
    let some : 0 < length r.ends.items = omega (arith, eqb-false r.ends.len 0 (sym c.if-is_empty.ensures), r.ends.ok.0) in
    omega (arith, ap length c.deref-2.ensures.value, number-within atom_view r.atoms.items r.ends.items c.args.self.now c.args.number c.self.view_is c.requires some c.self.invariant)

pub index-end-requires : goal.index-end-requires
index-end-requires c =
    let r = c.self.inside in
    let some : 0 < length r.ends.items = omega (arith, eqb-false r.ends.len 0 (sym c.if-is_empty.ensures), r.ends.ok.0) in
    omega (arith, number-within atom_view r.atoms.items r.ends.items c.args.self.now c.args.number c.self.view_is c.requires some c.self.invariant)

pub offset_bounds-deref-start : goal.offset_bounds-deref-start
offset_bounds-deref-start c =
    let r = c.self.inside in
    let some : 0 < length r.ends.items = omega (arith, eqb-false r.ends.len 0 (sym c.if-is_empty.ensures), r.ends.ok.0) in
    let start = c.start_of-start.ensures ∙ ap (λ ends. get_or (0 ∷ ends) c.args.number 0) c.deref-2.ensures.value in
    let part = list-within atom_view r.atoms.items r.ends.items c.args.self.now c.args.number c.self.view_is c.requires some c.self.invariant c.start_of-start.result c.index-end.result.now start c.index-end.ensures in
    search (rules, part.0, part.1)

pub slice_bounds-result-count-2 : goal.slice_bounds-result-count-2
slice_bounds-result-count-2 c =
    let r = c.self.inside in
    let some : 0 < length r.ends.items = omega (arith, eqb-false r.ends.len 0 (sym c.if-is_empty.ensures), r.ends.ok.0) in
    let start = c.start_of-start.ensures ∙ ap (λ ends. get_or (0 ∷ ends) c.args.number 0) c.deref-2.ensures.value in
    (list-within atom_view r.atoms.items r.ends.items c.args.self.now c.args.number c.self.view_is c.requires some c.self.invariant c.start_of-start.result c.index-end.result.now start c.index-end.ensures).0

pub slice_bounds-result-start-2 : goal.slice_bounds-result-start-2
slice_bounds-result-start-2 c =
    let r = c.self.inside in
    let some : 0 < length r.ends.items = omega (arith, eqb-false r.ends.len 0 (sym c.if-is_empty.ensures), r.ends.ok.0) in
    let start = c.start_of-start.ensures ∙ ap (λ ends. get_or (0 ∷ ends) c.args.number 0) c.deref-2.ensures.value in
    (list-within atom_view r.atoms.items r.ends.items c.args.self.now c.args.number c.self.view_is c.requires some c.self.invariant c.start_of-start.result c.index-end.result.now start c.index-end.ensures).0

pub slice_bounds-result-end-2 : goal.slice_bounds-result-end-2
slice_bounds-result-end-2 c =
    let r = c.self.inside in
    let some : 0 < length r.ends.items = omega (arith, eqb-false r.ends.len 0 (sym c.if-is_empty.ensures), r.ends.ok.0) in
    let start = c.start_of-start.ensures ∙ ap (λ ends. get_or (0 ∷ ends) c.args.number 0) c.deref-2.ensures.value in
    let part = list-within atom_view r.atoms.items r.ends.items c.args.self.now c.args.number c.self.view_is c.requires some c.self.invariant c.start_of-start.result c.index-end.result.now start c.index-end.ensures in
    search (rules, part.0, part.1)

pub returns : goal.returns
returns c =
    let r = c.self.inside in
    let some : 0 < length r.ends.items = omega (arith, eqb-false r.ends.len 0 (sym c.if-is_empty.ensures), r.ends.ok.0) in
    let start = c.start_of-start.ensures ∙ ap (λ ends. get_or (0 ∷ ends) c.args.number 0) c.deref-2.ensures.value in
    ap (λ atoms. map atom_view (take (c.index-end.result.now - c.start_of-start.result) (drop c.start_of-start.result atoms))) c.deref-3.ensures.value
    ∙ list-seen atom_view r.atoms.items r.ends.items c.args.self.now c.args.number c.self.view_is c.requires some c.self.invariant c.start_of-start.result c.index-end.result.now start c.index-end.ensures
