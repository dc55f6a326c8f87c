use Rattle.std.proofs.Common.{◌<◌, All}
use Rattle.sat_solve_tests.proofs.scripts.clause_of.Given as goal

abbrev pub invariant-words : goal.invariant-words
invariant-words g l = All (λ literal. literal.var < l.vars) l.clause.items
