use Rattle.std.proofs.Common.{◌≡◌, map, take}
use Rattle.deb_health.specs.Verdicts.{told_view, verdict_view}
use Rattle.deb_report.proofs.layout.told_by.Given as goal

abbrev pub invariant-loop-verdict : goal.invariant-loop-verdict
invariant-loop-verdict l = map told_view l.told.items ≡ map verdict_view (take l.verdict-index l.verdicts)
