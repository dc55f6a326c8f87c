use Rattle.std.proofs.Common.{subst}
use Rattle.std.proofs.lemmas.Option.{same_Some}
use Rattle.deb_verdict.specs.Formulas.{Tells}
use Rattle.deb_verdict.proofs.by_formula.refute_by_formula.Goals as goal

pub returns-clause-formula : goal.returns-clause-formula
returns-clause-formula c = λ x is. subst (Tells c.args.part.now.index.now c.args.p) (same_Some c.in_ok-described.described x is) c.in_ok-described.ensures.tells
