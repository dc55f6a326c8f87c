use Rattle.std.proofs.Common.{◌≡◌, ◌∙◌, [], Some, ap, get_or, nat_eq, refl, sym, true, false}
use Rattle.std.specs.HashMap.{get}
use Rattle.std.specs.Str.{bytes_eq}
use Rattle.std.proofs.lemmas.List.{get_or_default}
use Rattle.deb_index.specs.Tables.{hash_of, number_in}
use Rattle.deb_index.proofs.name_table.NameTable.number.Goals as goal

pub returns-then-eq : goal.returns-then-eq
returns-then-eq c =
    let name = c.args.name.now in
    let texts = c.self.inside.texts.items in
    let first = c.in_ok-first.field-0.now in
    let some : get nat_eq c.self.inside.firsts (hash_of name) ≡ Some first = ap (get nat_eq c.self.inside.firsts) (sym c.hash.ensures) ∙ sym c.in_ok-first.ensures.value in
    let text = get_or_default texts first [] c.index.result.now (c.self.invariant.within name first some) ∙ sym c.index.ensures ∙ sym c.as_slice.ensures.value in
    let same : bytes_eq name (get_or texts first []) ≡ true = ap (bytes_eq name) text ∙ sym c.eq.ensures ∙ c.if-eq.true in
    sym (ap (number_in name) (sym c.self.view_is) ∙ c.self.invariant.known name first some ∙ rw same refl)

pub returns : goal.returns
returns c =
    let name = c.args.name.now in
    let texts = c.self.inside.texts.items in
    let first = c.in_ok-first.field-0.now in
    let some : get nat_eq c.self.inside.firsts (hash_of name) ≡ Some first = ap (get nat_eq c.self.inside.firsts) (sym c.hash.ensures) ∙ sym c.in_ok-first.ensures.value in
    let text = get_or_default texts first [] c.index.result.now (c.self.invariant.within name first some) ∙ sym c.index.ensures ∙ sym c.as_slice.ensures.value in
    let other : bytes_eq name (get_or texts first []) ≡ false = ap (bytes_eq name) text ∙ sym c.eq.ensures ∙ c.if-eq.false in
    c.copied.ensures ∙ c.get-2.ensures.value ∙ sym (ap (number_in name) (sym c.self.view_is) ∙ c.self.invariant.known name first some ∙ rw other refl)
