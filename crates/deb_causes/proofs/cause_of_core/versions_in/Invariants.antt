use Rattle.std.proofs.Common.{◌≡◌, ℕ, map, take}
use Rattle.std.specs.List.{list_any}
use Rattle.number_sets.specs.Sets.{members_of}
use Rattle.deb_causes.specs.Causes.{is_version_in}
use Rattle.deb_causes.proofs.cause_of_core.versions_in.Given as goal

abbrev pub invariant-loop-core : goal.invariant-loop-core
invariant-loop-core l = (q : ℕ) → members_of l.versions.items q ≡ list_any (is_version_in l.index q) (map (λ core. core.now) (take l.core-index l.cores))
