use Rattle.std.proofs.Common.{◌≡◌, ◌≢◌, ◌==◌, ◌+◌, ◌∙◌, ap₂, false, length, rules, subst, sym, true}
use Rattle.std.specs.Prelude.{◌&&◌}
use Rattle.std.specs.List.{list_all}
use Rattle.deb_relation.specs.VersionText.{is_revision_byte, is_upstream_byte}
use Rattle.deb_relation.proofs.VersionBytes.{rest-decided}
use Rattle.deb_relation.proofs.version.check_rest.Goals as goal

pub returns-then-not-are_parts-clause-err : goal.returns-then-not-are_parts-clause-err
returns-then-not-are_parts-clause-err c =
    let parts = c.parts_of.ensures in
    let some : (length c.parts_of.result.0.now == 0) ≡ false = sym c.is_empty.ensures ∙ c.if-is_empty.false in
    let other : length c.parts_of.result.0.now + 1 ≢ length c.args.rest.now = search rules in
    rest-decided c.args.rest.now false (subst (λ upstream. (length upstream == 0) ≡ false) parts.upstream some)
    (subst (λ upstream. length upstream + 1 ≢ length c.args.rest.now) parts.upstream other)
    (ap₂ (λ upstream revision. list_all is_upstream_byte upstream && list_all is_revision_byte revision) (sym parts.upstream) (sym parts.revision)
    ∙ sym c.are_parts.ensures ∙ c.if-not-are_parts.true)

pub returns-clause-ok : goal.returns-clause-ok
returns-clause-ok c =
    let parts = c.parts_of.ensures in
    let some : (length c.parts_of.result.0.now == 0) ≡ false = sym c.is_empty.ensures ∙ c.if-is_empty.false in
    let other : length c.parts_of.result.0.now + 1 ≢ length c.args.rest.now = search rules in
    rest-decided c.args.rest.now true (subst (λ upstream. (length upstream == 0) ≡ false) parts.upstream some)
    (subst (λ upstream. length upstream + 1 ≢ length c.args.rest.now) parts.upstream other)
    (ap₂ (λ upstream revision. list_all is_upstream_byte upstream && list_all is_revision_byte revision) (sym parts.upstream) (sym parts.revision)
    ∙ sym c.are_parts.ensures ∙ c.if-not-are_parts.false)
