use Rattle.std.proofs.Common.{◌≡◌, ℕ, map, take}
use Rattle.std.specs.List.{flat_map}
use Rattle.number_sets.specs.Sets.{members_of}
use Rattle.deb_health.specs.Causes.{cause_in}
use Rattle.deb_causes.specs.Causes.{is_need_at}
use Rattle.deb_causes.proofs.cause_of_core.needs_in.Given as goal

abbrev pub invariant-loop-core : goal.invariant-loop-core
invariant-loop-core l = (k : ℕ) → members_of l.positions.items k ≡ is_need_at l.index (flat_map (cause_in l.index) (map (λ core. core.now) (take l.core-index l.cores))) k
