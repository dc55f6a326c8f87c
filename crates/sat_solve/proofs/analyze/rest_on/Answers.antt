use Rattle.sat_solve.proofs.MarkLemmas.{backed_clause}
use Rattle.sat_solve.proofs.analyze.rest_on.Goals as goal

pub returns-then-clause-problem-clause-backs : goal.returns-then-clause-problem-clause-backs
returns-then-clause-problem-clause-backs c =
    rw c.in-Clause.is (backed_clause c.args.problem.now c.args.used.now.items c.use_group.new.used.items c.in-Clause.clause c.use_group.ensures.used c.use_group.ensures.within c.if-clause-problem.true c.use_group.ensures.marked)
