use Rattle.std.proofs.Common.{◌≡◌, ◌<◌, ◌∙◌, Bor, ap, arith, false, length, rules, sym, true}
use Rattle.deb_report.specs.declared.broken.BrokenPackage.{BrokenPackage}
use Rattle.deb_report.specs.Since.{broken_view, is_gone}
use Rattle.number_sets.proofs.AtomSteps.{kept, left_out}
use Rattle.deb_report.proofs.amends.gone_of.Goals as goal
use Rattle.deb_report.proofs.amends.gone_of.Goals.{then-is_unknown+in_ok-push, else-is_unknown}

pub loop-deb-preserved : goal.loop-deb-preserved
loop-deb-preserved c =
    let test = is_gone c.args.index.now in
    let deb = c.deb-item.result in
    let inside : c.loop-deb.deb-index < length c.args.before.now = omega arith in
    elim c.if-is_unknown.branch [
      | then-is_unknown+in_ok-push w ↦
          let passes : test (broken_view deb) ≡ true = search rules in
          rw w.gone-is (kept test (λ (one : Bor BrokenPackage). broken_view one.now) broken_view _ c.loop-deb.gone.items _ c.args.before.now c.loop-deb.deb-index deb w.in_ok-push.ensures.items c.loop-deb.invariant inside (ap broken_view c.deb-item.is) passes)
      | else-is_unknown w ↦
          let fails : test (broken_view deb) ≡ false = search rules in
          rw w.gone-is (left_out test (λ (one : Bor BrokenPackage). broken_view one.now) broken_view c.loop-deb.gone.items c.args.before.now c.loop-deb.deb-index deb c.loop-deb.invariant inside (ap (λ one. test (broken_view one)) (sym c.deb-item.is) ∙ fails))
    ]
