use Rattle.std.proofs.Common.{ℕ, ◌<◌}
use Rattle.deb_index.specs.declared.constraint.Constraint.TheVariants.{Apart}
use Rattle.deb_index.specs.Constraints.{Holds}
use Rattle.deb_groundwork.proofs.rows.stands_apart.Given as goal

abbrev pub invariant-loop-number : goal.invariant-loop-number
invariant-loop-number g l = (j : ℕ) → j < l.number → Holds l.index (g.P.Places.members l.set) (Apart l.place j)
