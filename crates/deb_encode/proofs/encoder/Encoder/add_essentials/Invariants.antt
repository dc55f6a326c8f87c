use Rattle.std.proofs.Common.{◌≡◌, ℕ, true, take}
use Rattle.deb_index.specs.declared.constraint.Constraint.TheVariants.{Essential}
use Rattle.deb_index.specs.Constraints.{Holds}
use Rattle.number_sets.specs.Sets.{members_of}
use Rattle.deb_encode.specs.Encoders.{Tells}
use Rattle.deb_encode.proofs.encoder.Encoder.add_essentials.Given as goal

abbrev pub invariant-loop-name : goal.invariant-loop-name
invariant-loop-name l = Tells (λ play set. (q : ℕ) → members_of (take l.name-index l.name-items) q ≡ true → Holds play.index.now set (Essential q)) l.initial.self l.self
