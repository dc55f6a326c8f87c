use Rattle.std.proofs.Common.{sym, ◌∙◌, ap, map, drop, ◌+◌, List, ℕ}
use Rattle.std.specs.Global.{Vec}
use Rattle.deb_control.specs.Stanzas.{entry_of}
use Rattle.deb_control.proofs.SeenLemmas.{repeats, repeats-none, repeats-drop_found, repeats-drop_new, repeats-end}
use Rattle.deb_control.proofs.repeat.is_repeating_many.Goals as goal

pub loop-field-init : goal.loop-field-init
loop-field-init c = sym (ap (λ (seen : List (Vec ℕ)). repeats seen (map entry_of c.args.fields.now)) c.new-seen.ensures.empty ∙ repeats-none (map entry_of c.args.fields.now))

pub returns-then-not-branch : goal.returns-then-not-branch
returns-then-not-branch c =
    let old = sym c.if-not-branch.true ∙ c.in_ok-insert.ensures.added in
    sym (c.loop-field.invariant ∙ repeats-drop_found c.loop-field.seen.keys c.args.fields.now c.loop-field.field-index c.field-item.result c.in_ok-name.name c.loop-field-test.true c.field-item.is c.in_ok-name.ensures.ok old)

pub loop-field-preserved : goal.loop-field-preserved
loop-field-preserved c =
    let new = sym c.if-not-branch.false ∙ c.in_ok-insert.ensures.added in
    let step = repeats-drop_new c.loop-field.seen.keys c.args.fields.now c.loop-field.field-index c.field-item.result c.in_ok-name.name c.loop-field-test.true c.field-item.is c.in_ok-name.ensures.ok new in
    c.loop-field.invariant ∙ step ∙ ap (λ (seen : List (Vec ℕ)). repeats seen (map entry_of (drop (c.loop-field.field-index + 1) c.args.fields.now))) (sym c.in_ok-insert.ensures.keys)

pub returns : goal.returns
returns c = sym (c.loop-field.invariant ∙ repeats-end c.loop-field.seen.keys c.args.fields.now c.loop-field.field-index c.loop-field-test.false)
