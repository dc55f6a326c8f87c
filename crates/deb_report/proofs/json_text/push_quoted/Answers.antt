use Rattle.std.proofs.Common.{◌≡◌, ◌||◌, ◌==◌, ◌∷◌, [], ◌∙◌, List, ap, false, inl, inr, nat_lt, refl, sym, ℕ}
use Rattle.std.proofs.lemmas.Bool.{cases_Bool}
use Rattle.std.specs.List.{flat_map, list_any}
use Rattle.deb_report.specs.Forms.{escaped_byte, needs_escape, quoted}
use Rattle.deb_report.proofs.TextLemmas.{last_call}
use Rattle.deb_report.proofs.json_text.push_quoted.Goals as goal

-- a text that needs no escapes stands as it is
plain-itself : (text : List ℕ) → list_any needs_escape text ≡ false → flat_map escaped_byte text ≡ text
unfolding escaped_byte
plain-itself [] plain = refl
plain-itself (x ∷ xs) plain =
    elim (cases_Bool (x == 34 || x == 92)) [
      | inl special ↦ cc (rw special at plain)
      | inr other ↦ elim (cases_Bool (nat_lt x 32)) [
        | inl control ↦ cc (rw (other, control) at plain)
        | inr printable ↦ rw (other, printable) (ap (λ rest. x ∷ rest) (plain-itself xs (rw (other, printable) at plain)))
      ]
    ]

pub returns-then-not-needs_escapes : goal.returns-then-not-needs_escapes
unfolding quoted
returns-then-not-needs_escapes c =
    last_call c.push_texts.result c.push_texts.ensures (λ is. rw (plain-itself c.args.text.now (sym c.needs_escapes.ensures ∙ c.if-not-needs_escapes.true)) is)
