use Rattle.std.proofs.Common.{◌≡◌, map, take}
use Rattle.deb_health.specs.Verdicts.{told_view, shown_view}
use Rattle.deb_report.specs.Outcome.{shown_of}
use Rattle.deb_report.proofs.shown.shown_of.Given as goal

abbrev pub invariant-loop-i : goal.invariant-loop-i
invariant-loop-i l = map shown_view l.shown.items ≡ shown_of l.show (take l.i l.asked) (map told_view (take l.i l.told))
