use Rattle.std.proofs.Common.{◌≡◌, ◌++◌, take}
use Rattle.std.specs.List.{flat_map}
use Rattle.deb_report.proofs.sought.push_constraints.Given as goal

abbrev pub invariant-loop-core : goal.invariant-loop-core
invariant-loop-core l = l.constraints.items ≡ l.initial.constraints.items ++ flat_map (λ core. core.items) (take l.core-index l.cores)
