use Rattle.std.proofs.Common.{take}
use Rattle.sat_solve.specs.Trail.{ComesDownTo, steps_of}
use Rattle.sat_solve.proofs.trail.Trail.remainder.Given as goal

abbrev pub invariant-loop-literal : goal.invariant-loop-literal
invariant-loop-literal l = ComesDownTo l.self.vars (steps_of l.self) (take l.literal-index l.clause) l.free
