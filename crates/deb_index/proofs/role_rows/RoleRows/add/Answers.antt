use Rattle.std.proofs.Common.{◌++◌, ◌∷◌, ◌∙◌, [], ap, map, List, sym, arith}
use Rattle.deb_relation.specs.declared.atom.Atom.{Atom}
use Rattle.deb_relation.specs.Relationship.{atom_view}
use Rattle.deb_index.specs.Rows.{MadeRows, row_as}
use Rattle.deb_index.proofs.LinkLemmas.{on-ok}
use Rattle.deb_index.proofs.RowLemmas.{only-one}
use Rattle.deb_index.proofs.role_rows.RoleRows.add.Goals as goal

pub push_again-requires : goal.push_again-requires
push_again-requires c = let r = c.self.inside in (c.in-Some.ensures r.satisfiers r.role r.rows c.self.invariant).0

pub returns-in-Some-clause-row : goal.returns-in-Some-clause-row
returns-in-Some-clause-row c =
    let r = c.self.inside in
    let row = (c.in-Some.ensures r.satisfiers r.role r.rows c.self.invariant).1 in
    let alone = only-one c.args.asked.now c.atom-item.result (omega arith) c.atom-item.is in
    on-ok c.push_again.result (λ came. came ∙ ap (λ x. r.rows ++ x ∷ []) (row ∙ ap (λ (some : List Atom). row_as r.role r.satisfiers (map atom_view some)) (sym alone))
    ∙ ap (λ (made : MadeRows). made.rows ++ row_as made.role made.index (map atom_view c.args.asked.now) ∷ []) c.self.view_is) c.push_again.ensures.ok
