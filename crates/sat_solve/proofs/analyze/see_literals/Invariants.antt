use Rattle.std.proofs.Common.{take}
use Rattle.sat_solve.specs.Reasons.{SeesAll, variables_of}
use Rattle.sat_solve.proofs.analyze.see_literals.Given as goal

abbrev pub invariant-loop-literal : goal.invariant-loop-literal
invariant-loop-literal l = SeesAll (variables_of (take l.literal-index l.literals)) l.initial.seen.items l.seen.items
