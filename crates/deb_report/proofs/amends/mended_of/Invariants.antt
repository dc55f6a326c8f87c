use Rattle.std.proofs.Common.{◌≡◌, filter, map, take}
use Rattle.deb_report.specs.Since.{broken_view, is_mended}
use Rattle.deb_health.specs.Verdicts.{shown_view}
use Rattle.deb_report.proofs.amends.mended_of.Given as goal

abbrev pub invariant-loop-deb : goal.invariant-loop-deb
invariant-loop-deb l = map (λ deb. broken_view deb.now) l.mended.items ≡ filter (is_mended l.index l.asked (map shown_view l.broken)) (map broken_view (take l.deb-index l.before))
