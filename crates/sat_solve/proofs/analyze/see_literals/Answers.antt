use Rattle.sat_solve.proofs.AnalysisLemmas.{seen_more, seen_all}
use Rattle.sat_solve.proofs.analyze.see_literals.Goals as goal

pub loop-literal-preserved : goal.loop-literal-preserved
loop-literal-preserved c = rw c.mark.ensures (seen_more (λ literal. literal.var) c.args.literals.now c.args.seen.now.items c.loop-literal.seen.items c.loop-literal.literal-index _ c.loop-literal-test.true c.loop-literal.invariant)

pub returns : goal.returns
returns c = seen_all (λ literal. literal.var) c.args.literals.now c.args.seen.now.items c.loop-literal.seen.items c.loop-literal.literal-index c.loop-literal-test.false c.loop-literal.invariant
