use Rattle.std.proofs.Common.{◌≡◌, map, take}
use Rattle.std.specs.List.{flat_map}
use Rattle.deb_causes.specs.Causes.{cores_of}
use Rattle.deb_causes.specs.Numbering.{package_view, unnumbered}
use Rattle.deb_health.specs.Verdicts.{shown_view}
use Rattle.deb_causes.specs.Wrongs.{AreNumbered}
use Rattle.deb_causes.proofs.gathered.number_packages.Given as goal

abbrev pub invariant-loop-one : goal.invariant-loop-one
invariant-loop-one l =
    record {
      cores : map unnumbered (map package_view l.packages.items) ≡ map cores_of (map shown_view (take l.one-index l.broken));
      numbers : AreNumbered l.index l.initial.wrongs l.wrongs (flat_map (λ one. one.1) (map package_view l.packages.items));
    }
