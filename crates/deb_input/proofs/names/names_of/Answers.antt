use Rattle.std.proofs.Common.{◌≡◌, ◌∙◌, [], ap, map, rules, sym}
use Rattle.deb_input.specs.Names.{lines_in}
use Rattle.deb_input.proofs.NameLemmas.{bad-line}
use Rattle.deb_input.proofs.names.names_of.Goals as goal

pub returns-then-not-is_name-clause-refused : goal.returns-then-not-is_name-clause-refused
returns-then-not-is_name-clause-refused c =
    let items = c.as_slice-line-items.result.now in
    let parts : map (λ line. line.now) items ≡ lines_in c.args.text.now = ap (map (λ line. line.now)) c.as_slice-line-items.ensures.value ∙ c.in_ok-lines.ensures in
    bad-line c.args.text.now items c.loop-line.names.items c.loop-line.line-index c.len.result record { ref_ptr = (0, 0); now = [] } (λ name. name.items) parts c.loop-line-test.true c.loop-line.invariant.0 c.loop-line.invariant.1
    (sym c.if-not-is_name.ensures) (search rules)
