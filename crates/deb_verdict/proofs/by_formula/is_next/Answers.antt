use Rattle.std.proofs.Common.{◌∙◌, refl, sym, ap, is_ok, arith}
use Rattle.std.proofs.lemmas.Grind.{common_steps}
use Rattle.deb_groundwork.proofs.Searched.{among}
use Rattle.deb_verdict.proofs.NextLemmas.{between}
use Rattle.deb_verdict.proofs.by_formula.is_next.Goals as goal

pub returns-in-None : goal.returns-in-None
returns-in-None c =
    let behind = c.if-is_behind.ensures refl in
    sym (between c.args.numbers.now c.args.number c.args.at.now c.requires behind.1 behind.0 (λ less. grind (arith, common_steps, c.get.ensures.lookup, c.in-None.ensures.lookup)))

pub returns-in-Some : goal.returns-in-Some
returns-in-Some c =
    let behind = c.if-is_behind.ensures refl in
    sym (between c.args.numbers.now c.args.number c.args.at.now c.requires behind.1 behind.0 (λ less. grind (arith, common_steps, c.get.ensures.lookup, c.in-Some.ensures.lookup, c.if-next-number.true)))

pub returns-in-Ok : goal.returns-in-Ok
returns-in-Ok c = ap is_ok (sym c.in-Ok.is) ∙ among c.args.numbers.now c.args.number c.binary_search.result c.requires c.binary_search.ensures.position

pub returns-in-Err : goal.returns-in-Err
returns-in-Err c = ap is_ok (sym c.in-Err.is) ∙ among c.args.numbers.now c.args.number c.binary_search.result c.requires c.binary_search.ensures.position
