use Rattle.std.proofs.Common.{◌≡◌, ◌<◌, ◌++◌, ◌∷◌, ◌∙◌, [], ap, get_or, length, map, take, arith}
use Rattle.deb_relation.specs.Relationship.{atom_view}
use Rattle.deb_index.specs.declared.meets.Role.TheVariants.{Entry}
use Rattle.deb_index.specs.Packages.{aparts, no_atom, package_view}
use Rattle.deb_index.specs.Rows.{hit_row, row_as, row_of}
use Rattle.deb_index.proofs.LinkLemmas.{rows-more}
use Rattle.deb_index.proofs.RowLemmas.{alone}
use Rattle.deb_index.proofs.role_rows.RoleRows.add_entries.Goals as goal

pub loop-number-preserved : goal.loop-number-preserved
loop-number-preserved c =
    let old = c.args.self.now in
    let entries = aparts (package_view c.args.asking.now) in
    let so_far = c.loop-number.invariant in
    let role : c.loop-number.self.role ≡ Entry = so_far.1 ∙ c.requires.entries in
    let asked = ap (map atom_view) c.from_ref.ensures.value ∙ ap (λ a. a ∷ []) c.apart.ensures in
    let less : c.loop-number.number < length entries = omega (arith, c.loop-number-test.true, c.apart_count-number-end.ensures) in (
      c.add.ensures.index ∙ so_far.0,
      c.add.ensures.role ∙ so_far.1,
      c.in_ok-add.ensures.row ∙ (λ i. so_far.2 i ++ row_as (role i) (so_far.0 i) (asked i) ∷ []) ∙ ap (λ places. (old.rows ++ map (hit_row old.index) (take c.loop-number.number entries)) ++ row_of places ∷ []) (alone old.index (get_or entries c.loop-number.number no_atom))
          ∙ rows-more (hit_row old.index) old.rows entries c.loop-number.number no_atom less,
    )
