use Rattle.std.proofs.Common.{◌≡◌, ℕ, ◌<◌, true}
use Rattle.deb_index.specs.declared.constraint.Constraint.TheVariants.{Apart}
use Rattle.deb_index.specs.Constraints.{Holds}
use Rattle.deb_encode.specs.Encoders.{Tells}
use Rattle.deb_encode.specs.Exclusions.{AddsWide, is_narrow}
use Rattle.deb_encode.proofs.encoder.Encoder.add_entries.Given as goal

abbrev pub invariant-loop-number : goal.invariant-loop-number
invariant-loop-number l = record {
  adds : Tells (λ play set. (j : ℕ) → j < l.number → is_narrow play.index.now l.place j ≡ true → Holds play.index.now set (Apart l.place j)) l.initial.self l.self;
  wide : AddsWide l.initial.self.play.index.now (λ q j. (l.place ≡ q) × (j < l.number)) l.initial.entries.items l.entries.items;
}
