use Rattle.std.proofs.Common.{take, All}
use Rattle.deb_index.specs.declared.constraint.Constraint.TheVariants.{Need}
use Rattle.deb_index.specs.Constraints.{Holds}
use Rattle.deb_encode.specs.Encoders.{Tells}
use Rattle.deb_verdict.proofs.describe.add_needs.Given as goal

abbrev pub invariant-loop-need : goal.invariant-loop-need
invariant-loop-need l = Tells (λ play set. All (λ need. Holds play.index.now set (Need need.place need.number)) (take l.need-index l.unmet)) l.initial.encoder l.encoder
