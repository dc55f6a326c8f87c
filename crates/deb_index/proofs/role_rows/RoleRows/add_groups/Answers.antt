use Rattle.std.proofs.Common.{◌≡◌, ◌<◌, ◌++◌, ◌∷◌, ◌∙◌, [], length, arith}
use Rattle.deb_index.specs.declared.meets.Role.TheVariants.{Alternative}
use Rattle.deb_index.specs.Packages.{needs, package_view}
use Rattle.deb_index.specs.Rows.{answer_row, row_as}
use Rattle.deb_index.proofs.LinkLemmas.{rows-more}
use Rattle.deb_index.proofs.role_rows.RoleRows.add_groups.Goals as goal

pub loop-number-preserved : goal.loop-number-preserved
loop-number-preserved c =
    let old = c.args.self.now in
    let groups = needs (package_view c.args.asking.now) in
    let so_far = c.loop-number.invariant in
    let role : c.loop-number.self.role ≡ Alternative = so_far.1 ∙ c.requires.alternatives in
    let less : c.loop-number.number < length groups = omega (arith, c.loop-number-test.true, c.need_count-number-end.ensures) in (
      c.add.ensures.index ∙ so_far.0,
      c.add.ensures.role ∙ so_far.1,
      c.in_ok-add.ensures.row ∙ (λ i. so_far.2 i ++ row_as (role i) (so_far.0 i) (c.need.ensures i) ∷ []) ∙ rows-more (answer_row old.index) old.rows groups c.loop-number.number [] less,
    )
