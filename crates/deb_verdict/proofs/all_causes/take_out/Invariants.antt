use Rattle.std.proofs.Common.{◌≡◌, ℕ, take}
use Rattle.number_sets.specs.Sets.{members_of}
use Rattle.deb_health.specs.Causes.{cause_at, either}
use Rattle.deb_verdict.proofs.all_causes.take_out.Given as goal

abbrev pub invariant-loop-position : goal.invariant-loop-position
invariant-loop-position l = (k : ℕ) → members_of l.out k ≡ either (members_of l.initial.out) (cause_at l.index (take l.position-index l.core)) k
