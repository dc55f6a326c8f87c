use Rattle.std.proofs.Common.{◌≡◌, map, take}
use Rattle.deb_report.specs.Since.{broken_at, broken_view}
use Rattle.deb_report.proofs.broken.broken_packages.Given as goal

abbrev pub invariant-loop-one : goal.invariant-loop-one
invariant-loop-one l = map broken_view l.broken.items ≡ map (λ one. broken_at l.index one.place) (take l.one-index l.shown)
