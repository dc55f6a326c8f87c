use Rattle.std.proofs.Common.{◌<◌, ap, arith, length, map, sym}
use Rattle.std.proofs.lemmas.Bool.{eqb-false}
use Rattle.deb_relation.specs.Relationship.{atom_view}
use Rattle.deb_relation.proofs.Ends.{length-several}
use Rattle.deb_relation.proofs.groups.Groups.len.Goals as goal

pub returns-else-is_empty : goal.returns-else-is_empty
returns-else-is_empty c =
    let r = c.self.inside in
    let counted = r.ends.ok in
    let some : 0 < length r.ends.items = omega (arith, eqb-false r.ends.len 0 (sym c.if-is_empty.ensures), r.ends.ok.0) in
    omega (arith, length-several (map atom_view r.atoms.items) r.ends.items some, ap length c.self.view_is)
