use Rattle.std.proofs.Common.{◌≡◌, ◌++◌, take}
use Rattle.std.specs.List.{flat_map}
use Rattle.deb_report.specs.Walk.{begin_step, named_step}
use Rattle.deb_report.proofs.walk.first_steps.Given as goal

abbrev pub invariant-loop-named : goal.invariant-loop-named
invariant-loop-named l = l.steps.items ≡ l.initial.steps.items ++ flat_map named_step (take l.named-index l.core)

abbrev pub invariant-loop-constraint : goal.invariant-loop-constraint
invariant-loop-constraint l = l.steps.items ≡ l.initial.steps.items ++ flat_map begin_step (take l.constraint-index l.core)
