use Rattle.std.proofs.Common.{◌≡◌, ℕ, true, take}
use Rattle.number_sets.specs.Sets.{members_of}
use Rattle.deb_encode.specs.Encoders.{Tells, all_places}
use Rattle.deb_encode.specs.Exclusions.{AddsWide, MeetsNarrow}
use Rattle.deb_encode.proofs.encoder.Encoder.add_conflicts.Given as goal

abbrev pub invariant-loop-number : goal.invariant-loop-number
invariant-loop-number l = record {
  adds : Tells (λ play set. (q : ℕ) → members_of (take l.number (all_places l.initial.self.play)) q ≡ true → MeetsNarrow play.index.now set q) l.initial.self l.self;
  wide : AddsWide l.initial.self.play.index.now (λ q j. members_of (take l.number (all_places l.initial.self.play)) q ≡ true) l.initial.gathered.entries.items l.gathered.entries.items;
}
