use Rattle.std.proofs.Common.{◌≡◌, ℕ, ◌<◌, ◌≤◌, ◌+◌, get_or, length, ap, sym, ◌∙◌, arith, rules}
use Rattle.std.proofs.lemmas.List.{get_or_default, take_rest}
use Rattle.deb_control.specs.declared.field.Field.{Field}
use Rattle.deb_control.specs.Slots.{name_slot}
use Rattle.deb_control.proofs.SlotLemmas.{from_place_named, put_first}
use Rattle.deb_control.proofs.slots.Slots.put.Goals as goal

pub returns-clause-firsts : goal.returns-clause-firsts
returns-clause-firsts c =
    let field = c.index-fields-place.result in
    let slot = c.slot_of-slot.ensures.value ∙ ap (λ (f : Field). name_slot f.name.now) (sym c.index-fields-place.is) in
    let there : c.slot_of-slot.result < length c.args.self.now.firsts = search rules in
    put_first c.args.self.now.firsts c.slot_of-slot.result c.args.place c.args.fields.now field c.requires.within c.index-fields-place.is slot there c.requires.firsts

pub returns-clause-named : goal.returns-clause-named
returns-clause-named c field is =
    let firsts = c.args.self.now.firsts in
    let read = c.index-fields-place in
    let same : read.result ≡ field = read.is ∙ get_or_default c.args.fields.now c.args.place read.result field c.requires.within ∙ sym is in
    let slot = c.slot_of-slot.ensures.value ∙ ap (λ (f : Field). name_slot f.name.now) (sym read.is ∙ same) in
    let first : c.from-first.result ≡ get_or firsts (name_slot field.name.now) 0 = c.from-first.ensures ∙ ap (λ (slot : ℕ). get_or firsts slot 0) slot in
    let above : c.args.place + 1 ≤ c.min.result = omega (arith, c.min.ensures, c.max.ensures, c.requires.within) in
    let low : c.args.place + 1 < c.min.result → c.min.result ≤ get_or firsts (name_slot field.name.now) 0 = λ past. omega (arith, past, c.min.ensures, c.max.ensures, first) in
    rw take_rest (from_place_named firsts field.name.now c.args.fields.now (c.args.place + 1) c.min.result above low c.requires.firsts)
