use Rattle.std.proofs.Common.{ℕ, ◌-◌, ◌<◌, length}
use Rattle.deb_index.specs.Packages.{needs_at}
use Rattle.deb_index.specs.declared.constraint.Constraint.TheVariants.{Need, Apart}
use Rattle.deb_groundwork.specs.Parts.{MeetsAsked}
use Rattle.deb_groundwork.proofs.healthy_set.meets_place.Given as goal

abbrev pub invariant-loop-number : goal.invariant-loop-number
invariant-loop-number g l = (j : ℕ) → j < l.number → j < length (needs_at l.part.index.now l.place) → MeetsAsked l.part (g.P.Places.members l.set) (Need l.place j)

abbrev pub decreases-loop-number : goal.decreases-loop-number
decreases-loop-number g l = l.count - l.number

abbrev pub invariant-loop-entry : goal.invariant-loop-entry
invariant-loop-entry g l = (j : ℕ) → j < l.entry → MeetsAsked l.part (g.P.Places.members l.set) (Apart l.place j)
