use Rattle.std.proofs.Common.{◌≡◌, ◌+◌, ◌++◌, ◌∙◌, suc, ap, append-nil, append_assoc, arith, codes, sym}
use Rattle.deb_report.specs.WalkLines.{blanks, lead}
use Rattle.deb_report.proofs.TextLemmas.{last_pushed}
use Rattle.deb_report.proofs.walk_lines.push_lead.Goals as goal

pub loop-init : goal.loop-init
unfolding blanks
loop-init c = sym (append-nil c.args.out.now.items)

pub loop-preserved : goal.loop-preserved
unfolding blanks
loop-preserved c =
    let next : c.loop.counter + 1 ≡ suc c.loop.counter = omega arith in
    rw next (c.in_ok-extend_from_slice.ensures.items ∙ ap (λ front. front ++ codes "  ") c.loop.invariant ∙ append_assoc c.args.out.now.items (blanks c.loop.counter) (codes "  "))

pub returns : goal.returns
unfolding lead
returns c =
    let out = c.args.out.now.items in
    let all : c.loop.counter ≡ c.args.depth = omega arith in
    last_pushed c.extend_from_slice-2.result _ c.loop.out.items (codes "   - ") _ c.extend_from_slice-2.ensures.items
    (ap (λ front. front ++ codes "   - ") (c.loop.invariant ∙ ap (λ count. out ++ blanks count) all) ∙ append_assoc out (blanks c.args.depth) (codes "   - "))
