use Rattle.std.proofs.Common.{◌<◌, All}
use Rattle.sat_solve_tests.proofs.scripts.owners_of.Given as goal

abbrev pub invariant-words : goal.invariant-words
invariant-words g l = (All (λ owner. owner.group < l.groups) l.owners.items) × All (λ owner. owner.var < l.vars) l.owners.items
