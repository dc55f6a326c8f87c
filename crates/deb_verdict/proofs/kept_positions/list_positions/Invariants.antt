use Rattle.std.proofs.Common.{[], take}
use Rattle.deb_index.specs.declared.constraint.Constraint.TheVariants.{Need, Apart}
use Rattle.deb_verdict.specs.Formulas.{Lists}
use Rattle.deb_verdict.proofs.Listing.{IsAskedIn, IsBelow, essential_at}
use Rattle.deb_verdict.proofs.kept_positions.list_positions.Given as goal

abbrev pub invariant-loop-position : goal.invariant-loop-position
invariant-loop-position l = Lists l.index (IsBelow (essential_at l.index) l.position) [] l.positions.items

abbrev pub invariant-loop-place : goal.invariant-loop-place
invariant-loop-place l = Lists l.index (IsAskedIn l.index (take l.place-index l.members)) [] l.positions.items

abbrev pub invariant-loop-number : goal.invariant-loop-number
invariant-loop-number l = Lists l.index (IsBelow (λ j. Need l.place j) l.number) l.initial.positions.items l.positions.items

abbrev pub invariant-loop-number-2 : goal.invariant-loop-number-2
invariant-loop-number-2 l = Lists l.index (IsBelow (λ j. Apart l.place j) l.number) l.initial.positions.items l.positions.items
