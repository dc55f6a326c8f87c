use Rattle.std.proofs.Common.{◌≡◌, All, length, map}
use Rattle.deb_health.specs.Verdicts.{SpeaksOf, told_view}
use Rattle.deb_report_tests.proofs.reporting.tell_each.Given as goal

abbrev pub invariant-loop-place : goal.invariant-loop-place
invariant-loop-place l = (length l.told.items ≡ l.place-index) × All (SpeaksOf l.groundwork.index.now) (map told_view l.told.items)
