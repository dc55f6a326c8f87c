use Rattle.std.proofs.Common.{◌≡◌, All, length, map}
use Rattle.deb_health.specs.Verdicts.{SpeaksOf, verdict_view}
use Rattle.deb_report_tests.proofs.reporting.verdicts_of.Given as goal

abbrev pub invariant-loop-place : goal.invariant-loop-place
invariant-loop-place l = (length l.verdicts.items ≡ l.place-index) × All (SpeaksOf l.index) (map verdict_view l.verdicts.items)
