use Rattle.std.proofs.Common.{◌≡◌, ◌++◌, ◌∷◌, ◌∙◌, [], Ok, ap, arith, false, length, map, sym, true}
use Rattle.std.proofs.lemmas.List.{length-append, length-map}
use Rattle.std.proofs.lemmas.Result.{err_from_is_err_and}
use Rattle.std.specs.Option.{option_copied}
use Rattle.deb_relation.specs.Relationship.{atom_view, group_in, groups_of, is_blank}
use Rattle.deb_relation.specs.Bytes.{comma, parts_of}
use Rattle.deb_relation.specs.Groups.{lists_from}
use Rattle.deb_relation.proofs.Ends.{ends-more, list-put, lists-ended}
use Rattle.deb_relation.proofs.Gather.{each-ends, filled-blank, filled-fails, filled-more, front-fails, front-ok}
use Rattle.deb_relation.proofs.groups.read_several.Goals as goal

pub returns-in_err-add_group : goal.returns-in_err-add_group
returns-in_err-add_group c =
    let p = err_from_is_err_and c.from_residual-in_err-add_group.result c.from_residual-in_err-add_group.ensures.1 in
    let other : is_blank c.cut.result.0.now ≡ false = sym c.if-not-is_blank.ensures in
    let e = c.in_err-add_group.field-0.0 in
    let fails = front-fails e (map atom_view c.elements.atoms.items) (group_in c.cut.result.0.now) c.in_err-add_group.ensures in
    rw (p.1, p.2) (filled-fails group_in e (lists_from 0 (map atom_view c.elements.atoms.items) c.elements.ends.items) c.cut.result.0.now (parts_of comma (option_copied c.cut.result.1))
    (groups_of c.args.text.now) other fails (rw (c.in-Some.is, c.cut.ensures.parts) at c.elements.invariant.0))

pub elements-preserved-in_ok-push : goal.elements-preserved-in_ok-push
elements-preserved-in_ok-push c =
    let before = map atom_view c.elements.atoms.items in
    let after = map atom_view c.add_group.new.atoms.items in
    let ends = c.elements.ends.items in
    let other : is_blank c.cut.result.0.now ≡ false = sym c.if-not-is_blank.ensures in
    let group = front-ok before after (group_in c.cut.result.0.now) c.in_ok-add_group.ensures in
    let counted = c.add_group.new.atoms.ok in
    let end : c.len.result ≡ length after = omega (arith, length-map c.add_group.new.atoms.items atom_view) in
    let items : c.push.new.self.items ≡ ends ++ c.len.result ∷ [] = c.in_ok-push.ensures.items in
    let put = list-put before group.0 ends c.len.result c.elements.invariant.1 (end ∙ ap length group.2) in
    let more = ends-more 0 (length before) ends c.len.result c.elements.invariant.1 (omega (arith, end, ap length group.2, length-append before group.0)) in
    rw (items, group.2) (
      rw put (filled-more group_in (lists_from 0 before ends) c.cut.result.0.now (parts_of comma (option_copied c.cut.result.1)) group.0
          (groups_of c.args.text.now) other group.1 (rw (c.in-Some.is, c.cut.ensures.parts) at c.elements.invariant.0)),
      rw (← group.2, ← end) more,
    )

pub elements-preserved : goal.elements-preserved
elements-preserved c =
    let same : is_blank c.cut.result.0.now ≡ true = sym c.if-not-is_blank.ensures in (
      filled-blank group_in (lists_from 0 (map atom_view c.elements.atoms.items) c.elements.ends.items) c.cut.result.0.now (parts_of comma (option_copied c.cut.result.1))
          (groups_of c.args.text.now) same (rw (c.in-Some.is, c.cut.ensures.parts) at c.elements.invariant.0),
      c.elements.invariant.1,
    )

pub returns : goal.returns
returns c =
    rw (c.shrink_to_fit.ensures.items, c.shrink_to_fit-2.ensures.items)
    (each-ends group_in (lists_from 0 (map atom_view c.elements.atoms.items) c.elements.ends.items) (groups_of c.args.text.now) (rw c.in_default.is at c.elements.invariant.0)
    ∙ ap Ok (sym (lists-ended (map atom_view c.elements.atoms.items) c.elements.ends.items c.elements.invariant.1)))
