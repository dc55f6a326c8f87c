use Rattle.std.proofs.Common.{◌≡◌, ◌==◌, ◌<◌, ◌+◌, ℕ, Some, None, ap, ◌∙◌, arith, false, get_or, length-take, take, true}
use Rattle.std.proofs.lemmas.Bool.{false_from_ne_true}
use Rattle.std.proofs.lemmas.Bool.Decides.{nat_tests}
use Rattle.std.proofs.lemmas.List.{get_or-take, take_rest}
use Rattle.memchr.specs.Find.{IsFirstByte, is_byte2}
use Rattle.deb_relation.specs.Bytes.{bar, comma}
use Rattle.deb_relation.proofs.Bars.{barred-refused, has-none}
use Rattle.deb_relation.proofs.ByteKinds.{parts_nothing}
use Rattle.deb_relation.proofs.Gather.{cut-here, cut-none}
use Rattle.deb_relation.proofs.relation.cut_entry.Goals as goal

-- the search passed over a byte
passed : (b : ℕ) → (is_byte2 comma bar b ≡ true → ⊥) → ((b == comma) ≡ false) × ((b == bar) ≡ false)
passed b other = parts_nothing b (false_from_ne_true (is_byte2 comma bar b) other)

pub returns-in-None-clause-parts : goal.returns-in-None-clause-parts
returns-in-None-clause-parts c =
    let text = c.args.text.now in
    let none : IsFirstByte (is_byte2 comma bar) text None = c.in-None.ensures in
    cut-none (λ b. b == comma) text (λ k within. (passed (get_or text k 0) (none k (omega arith) within)).0)

pub returns-in-None-clause-alone : goal.returns-in-None-clause-alone
returns-in-None-clause-alone c =
    let text = c.args.text.now in
    let none : IsFirstByte (is_byte2 comma bar) text None = c.in-None.ensures in
    has-none bar text (λ k within. (passed (get_or text k 0) (none k (omega arith) within)).1)

pub returns-in-Some-clause-parts : goal.returns-in-Some-clause-parts
returns-in-Some-clause-parts c =
    let text = c.args.text.now in
    let end = c.in-Some.end in
    let first : IsFirstByte (is_byte2 comma bar) text (Some end) = c.in-Some.ensures in
    let here : (get_or text end 0 == comma) ≡ true = grind (arith, nat_tests, c.if-text-end-eq44.true) in
    rw (take_rest text (end + 1))
    (cut-here (λ b. b == comma) text end first.0.high (λ k before. (passed (get_or text k 0) (first.0.before k (omega arith) before)).0) here)

pub returns-in-Some-clause-alone : goal.returns-in-Some-clause-alone
returns-in-Some-clause-alone c =
    let text = c.args.text.now in
    let end = c.in-Some.end in
    let first : IsFirstByte (is_byte2 comma bar) text (Some end) = c.in-Some.ensures in
    has-none bar (take end text) (λ k within.
    let before : k < end = omega (arith, within, length-take end text) in
    ap (λ b. b == bar) (get_or-take end text k 0 before) ∙ (passed (get_or text k 0) (first.0.before k (omega arith) before)).1)

pub returns-in-Some-2-clause-refused : goal.returns-in-Some-2-clause-refused
returns-in-Some-2-clause-refused c =
    let text = c.args.text.now in
    let end = c.in-Some.end in
    let first : IsFirstByte (is_byte2 comma bar) text (Some end) = c.in-Some.ensures in
    let here : get_or text end 0 ≡ bar = grind (arith, nat_tests, first.1, c.if-text-end-eq44.false) in
    barred-refused text end first.0.high here (λ k before. (passed (get_or text k 0) (first.0.before k (omega arith) before)).0)
