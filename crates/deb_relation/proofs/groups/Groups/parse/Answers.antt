use Rattle.std.proofs.Common.{◌≡◌, ◌∙◌, Ok, false, map, sym}
use Rattle.std.proofs.lemmas.Result.{err_from_is_err_and}
use Rattle.deb_relation.specs.Bytes.{bar, has_byte}
use Rattle.deb_relation.specs.Relationship.{atom_view}
use Rattle.deb_relation.proofs.Counts.{few-groups}
use Rattle.deb_relation.proofs.Singles.{alone-fails, alone-ok}
use Rattle.deb_relation.proofs.groups.Groups.parse.Goals as goal

pub returns-then-has_bar-clause-few : goal.returns-then-has_bar-clause-few
returns-then-has_bar-clause-few c = few-groups c.read_several.result c.args.text.now c.read_several.ensures

pub returns-in_err-atoms-clause-groups : goal.returns-in_err-atoms-clause-groups
returns-in_err-atoms-clause-groups c =
    let none : has_byte bar c.args.text.now ≡ false = sym c.has_bar.ensures ∙ c.if-has_bar.false in
    let p = err_from_is_err_and c.from_residual.result c.from_residual.ensures.1 in
    rw (p.1, p.2) (alone-fails c.in_err-atoms.field-0.0 c.args.text.now none c.in_err-atoms.ensures.atoms)

pub returns-clause-groups : goal.returns-clause-groups
returns-clause-groups c =
    let none : has_byte bar c.args.text.now ≡ false = sym c.has_bar.ensures ∙ c.if-has_bar.false in
    rw c.new-ends.ensures.items (alone-ok c.args.text.now (map atom_view c.in_ok-atoms.atoms.items) none c.in_ok-atoms.ensures.atoms)

pub returns-clause-few : goal.returns-clause-few
returns-clause-few c = few-groups (Ok _) c.args.text.now (returns-clause-groups c)
