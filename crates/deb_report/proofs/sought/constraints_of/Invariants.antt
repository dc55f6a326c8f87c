use Rattle.std.proofs.Common.{◌≡◌, take}
use Rattle.std.specs.List.{flat_map}
use Rattle.deb_report.proofs.sought.constraints_of.Given as goal

abbrev pub invariant-loop-cause : goal.invariant-loop-cause
invariant-loop-cause l = l.constraints.items ≡ flat_map (λ cause. cause.constraints.items) (take l.cause-index l.causes)
