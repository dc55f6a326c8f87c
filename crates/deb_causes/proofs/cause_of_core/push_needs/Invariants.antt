use Rattle.std.proofs.Common.{◌≡◌, ◌||◌, ℕ, take}
use Rattle.number_sets.specs.Sets.{members_of}
use Rattle.deb_health.specs.Causes.{cause_in}
use Rattle.deb_causes.specs.Causes.{is_need_at}
use Rattle.deb_causes.proofs.cause_of_core.push_needs.Given as goal

abbrev pub invariant-loop-constraint : goal.invariant-loop-constraint
invariant-loop-constraint l =
    (k : ℕ) → members_of l.positions.items k ≡ (members_of l.initial.positions.items k || is_need_at l.index (cause_in l.index (take l.constraint-index l.core)) k)
