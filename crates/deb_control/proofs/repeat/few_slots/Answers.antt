use Rattle.std.proofs.Common.{arith, ◌≡◌, ℕ, ◌+◌, ◌-◌, true, false, ap, length, map, drop, sym, ◌∙◌}
use Rattle.deb_control.specs.declared.field.Field.{Field}
use Rattle.deb_control.specs.Fields.{has_name}
use Rattle.deb_control.specs.Stanzas.{entry_of}
use Rattle.deb_control.proofs.RepeatLemmas.{has_repeat-end}
use Rattle.deb_control.proofs.SlotLemmas.{agrees, none_first, step_found, step_none}
use Rattle.deb_control.proofs.repeat.few_slots.Goals as goal

pub loop-i-init : goal.loop-i-init
loop-i-init c =
    let fields = c.args.fields.now in
    (omega arith, has_repeat-end fields (length fields) (omega arith), none_first c.of_none-slots.result.firsts fields (length fields) (omega arith))

pub returns-then-contains_name : goal.returns-then-contains_name
returns-then-contains_name c =
    let read = c.index-fields-i in
    let next : c.loop-i.i - 1 + 1 ≡ c.loop-i.i = omega (arith, c.loop-i-test.true) in
    let found : agrees c.args.fields.now c.loop-i.i read.result ≡ true =
    ap (λ (k : ℕ). has_name read.result.name.now (map entry_of (drop k c.args.fields.now))) (sym next) ∙ sym (c.put-behind.ensures.named read.result read.is)
    ∙ ap (λ (f : Field). has_name f.name.now (map entry_of c.put-behind.result.now)) read.is ∙ sym c.contains_name.ensures ∙ c.if-contains_name.true in
    step_found c.args.fields.now c.loop-i.i read.result c.loop-i-test.true c.loop-i.invariant.0 read.is found

pub loop-i-preserved : goal.loop-i-preserved
loop-i-preserved c =
    let read = c.index-fields-i in
    let next : c.loop-i.i - 1 + 1 ≡ c.loop-i.i = omega (arith, c.loop-i-test.true) in
    let none : agrees c.args.fields.now c.loop-i.i read.result ≡ false =
    ap (λ (k : ℕ). has_name read.result.name.now (map entry_of (drop k c.args.fields.now))) (sym next) ∙ sym (c.put-behind.ensures.named read.result read.is)
    ∙ ap (λ (f : Field). has_name f.name.now (map entry_of c.put-behind.result.now)) read.is ∙ sym c.contains_name.ensures ∙ c.if-contains_name.false in
    (omega (arith, c.loop-i.invariant.0), step_none c.args.fields.now c.loop-i.i read.result c.loop-i-test.true c.loop-i.invariant.0 read.is none c.loop-i.invariant.1, c.put-behind.ensures.firsts)

pub returns : goal.returns
returns c =
    let e : c.loop-i.i ≡ 0 = omega (arith, c.loop-i-test.false) in
    let invariant = rw e at c.loop-i.invariant in
    record { once = invariant.1; found = invariant.2 }
