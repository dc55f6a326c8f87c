use Rattle.std.proofs.Common.{◌≡◌, filter, map, take}
use Rattle.deb_report.specs.Since.{broken_view, is_gone}
use Rattle.deb_report.proofs.amends.gone_of.Given as goal

abbrev pub invariant-loop-deb : goal.invariant-loop-deb
invariant-loop-deb l = map (λ deb. broken_view deb.now) l.gone.items ≡ filter (is_gone l.index) (map broken_view (take l.deb-index l.before))
