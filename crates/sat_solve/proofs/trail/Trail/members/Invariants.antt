use Rattle.sat_solve.specs.Trail.{set_of, steps_of}
use Rattle.number_sets.proofs.MembersLemmas.{ListsBelow}
use Rattle.sat_solve.proofs.trail.Trail.members.Given as goal

abbrev pub invariant-loop-var : goal.invariant-loop-var
invariant-loop-var l = ListsBelow (set_of (steps_of l.self)) l.var l.members.items
