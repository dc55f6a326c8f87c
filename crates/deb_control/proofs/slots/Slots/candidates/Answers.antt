use Rattle.std.proofs.Common.{◌≡◌, ℕ, ◌<◌, ◌≤◌, get_or, ap, ◌∙◌, arith}
use Rattle.std.proofs.lemmas.List.{take_rest}
use Rattle.deb_control.specs.Slots.{name_slot}
use Rattle.deb_control.proofs.SlotLemmas.{from_place_value}
use Rattle.deb_control.proofs.slots.Slots.candidates.Goals as goal

pub returns : goal.returns
returns c =
    let first : c.from-first.result ≡ get_or c.args.self.now.firsts (name_slot c.args.name.now) 0 = c.from-first.ensures ∙ ap (λ (slot : ℕ). get_or c.args.self.now.firsts slot 0) c.slot_of.ensures.value in
    let low : 0 < c.min.result → c.min.result ≤ get_or c.args.self.now.firsts (name_slot c.args.name.now) 0 = λ past. omega (arith, past, c.min.ensures, first) in
    rw take_rest (from_place_value c.args.self.now.firsts c.args.name.now c.args.fields.now 0 c.min.result (omega arith) low c.requires)
