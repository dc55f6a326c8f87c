use Rattle.std.proofs.Common.{ℕ, ◌<◌, ◌≤◌, ◌-◌, length}
use Rattle.deb_encode.specs.Encoders.{Tells}
use Rattle.deb_encode.specs.Exclusions.{EntryHolds, entry_at}
use Rattle.deb_encode.proofs.encoder.Encoder.add_runs.Given as goal

abbrev pub invariant-loop-start : goal.invariant-loop-start
invariant-loop-start l = record {
  within : l.start ≤ length l.entries;
  adds : Tells (λ play set. (k : ℕ) → k < l.start → EntryHolds play.index.now set (entry_at l.entries k)) l.initial.self l.self;
}

abbrev pub decreases-loop-start : goal.decreases-loop-start
decreases-loop-start l = length l.entries - l.start
