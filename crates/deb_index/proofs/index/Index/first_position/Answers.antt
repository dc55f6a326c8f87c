use Rattle.std.proofs.Common.{◌≡◌, ◌+◌, ◌∙◌, length, ap, arith}
use Rattle.deb_index.specs.Packages.{IndexView, essential_names}
use Rattle.deb_index.specs.Links.{first_position}
use Rattle.deb_index.proofs.ConstraintLemmas.{constraints-few}
use Rattle.deb_index.proofs.PositionLemmas.{first-within, sums-joined}
use Rattle.deb_index.proofs.index.Index.first_position.Goals as goal

-- what is added up is where the constraints of a place begin, and these are few
sum-is : (c : goal.After-struct_known-2-1) → c.len-2.result + c.start-start.result.group + c.start-start.result.entry ≡ first_position c.args.self.now c.args.place
sum-is c =
    let essential = ap length c.self.invariant.kept.essentials ∙ ap (λ (w : IndexView). length (essential_names w)) c.self.view_is in
    let counted = c.self.inside.essential.ok in
    omega (arith, c.len-2.ensures, essential, sums-joined c.args.self.now c.args.place, c.start-start.ensures.group, c.start-start.ensures.entry)

pub overflow_cast-result : goal.overflow_cast-result
overflow_cast-result c =
    let v = c.args.self.now in
    let essential = ap length c.self.invariant.kept.essentials ∙ ap (λ (w : IndexView). length (essential_names w)) c.self.view_is in
    let counted = c.self.inside.essential.ok in
    omega (arith, constraints-few v c.len.ensures.few c.len.ensures.few_asked, c.len-2.ensures, essential, first-within v 0)

pub overflow_add-result : goal.overflow_add-result
overflow_add-result c =
    let v = c.args.self.now in
    let essential = ap length c.self.invariant.kept.essentials ∙ ap (λ (w : IndexView). length (essential_names w)) c.self.view_is in
    let counted = c.self.inside.essential.ok in
    omega (arith, constraints-few v c.len.ensures.few c.len.ensures.few_asked, c.len-2.ensures, essential, sums-joined v c.args.place, first-within v c.args.place, c.start-start.ensures.group)

pub overflow_add-result-2 : goal.overflow_add-result-2
overflow_add-result-2 c = omega (arith, sum-is c, first-within c.args.self.now c.args.place, constraints-few c.args.self.now c.len.ensures.few c.len.ensures.few_asked)

pub returns-clause-value : goal.returns-clause-value
returns-clause-value c = sum-is c

pub returns-clause-few : goal.returns-clause-few
returns-clause-few c = constraints-few c.args.self.now c.len.ensures.few c.len.ensures.few_asked
