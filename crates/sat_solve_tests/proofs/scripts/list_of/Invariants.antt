use Rattle.std.proofs.Common.{◌<◌, All}
use Rattle.sat_solve_tests.proofs.scripts.list_of.Given as goal

abbrev pub invariant-words : goal.invariant-words
invariant-words g l = All (λ var. var < l.vars) l.list.items
