use Rattle.std.proofs.Common.{◌≡◌, ◌++◌, length, reverse}
use Rattle.deb_report.proofs.walk.put_before.Given as goal

abbrev pub invariant-loop-step : goal.invariant-loop-step
invariant-loop-step l = l.left.items ++ reverse l.stack.items ≡ l.initial.left.items ++ reverse l.initial.stack.items

abbrev pub decreases-loop-step : goal.decreases-loop-step
decreases-loop-step l = length l.left.items
