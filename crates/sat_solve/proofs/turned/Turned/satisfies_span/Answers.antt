use Rattle.std.proofs.Common.{refl, sym, ◌∙◌}
use Rattle.sat_solve.specs.Rotation.{turned}
use Rattle.sat_solve.proofs.SpanLemmas.{clause_unmet, owner_out_met, owner_clear_met, owner_in_met, owner_in_unmet}
use Rattle.sat_solve.proofs.turned.Turned.satisfies_span.Goals as goal

pub returns-in-None-clause-unmet : goal.returns-in-None-clause-unmet
returns-in-None-clause-unmet c = λ fails. clause_unmet (turned c.args.self.now.inside.now c.args.self.now.var) c.args.literals.now c.args.span c.in-None.is (sym c.satisfies.ensures ∙ fails)

pub returns-then-not-has-clause-met : goal.returns-then-not-has-clause-met
returns-then-not-has-clause-met c = λ _. owner_out_met (turned c.args.self.now.inside.now c.args.self.now.var) c.args.literals.now c.args.span c.in-Some.owner c.in-Some.is (sym c.if-not-has.ensures)

pub returns-then-clear-span-2-clause-met : goal.returns-then-clear-span-2-clause-met
returns-then-clear-span-2-clause-met c = λ _. owner_clear_met (turned c.args.self.now.inside.now c.args.self.now.var) c.args.literals.now c.args.span c.in-Some.owner c.in-Some.is c.args.clear.now.0 c.args.clear.now.1 c.if-clear-span.true c.if-clear-span-2.true c.requires.clear

pub returns-then-has_none-clause-met : goal.returns-then-has_none-clause-met
returns-then-has_none-clause-met c = λ _. owner_clear_met (turned c.args.self.now.inside.now c.args.self.now.var) c.args.literals.now c.args.span c.in-Some.owner c.in-Some.is c.args.span.start c.args.span.end refl refl (sym c.if-has_none.ensures)

pub returns-else-has_none-clause-met : goal.returns-else-has_none-clause-met
returns-else-has_none-clause-met c = λ clear. owner_in_met (turned c.args.self.now.inside.now c.args.self.now.var) c.args.literals.now c.args.span c.in-Some.owner c.in-Some.is (sym c.has_no_other.ensures ∙ clear)

pub returns-else-has_none-clause-unmet : goal.returns-else-has_none-clause-unmet
returns-else-has_none-clause-unmet c = λ other. owner_in_unmet (turned c.args.self.now.inside.now c.args.self.now.var) c.args.literals.now c.args.span c.in-Some.owner c.in-Some.is (sym c.if-not-has.ensures) (sym c.has_no_other.ensures ∙ other)
