use Rattle.std.proofs.Common.{[], map, take}
use Rattle.deb_index.specs.Packages.{package_view}
use Rattle.deb_index.specs.Names.{IsNaming, provided_places}
use Rattle.deb_index.proofs.names.Names.add_provided.Given as goal

abbrev pub invariant-loop-place : goal.invariant-loop-place
invariant-loop-place l = IsNaming (map package_view l.packages) [] l.initial.self → IsNaming (map package_view l.packages) (provided_places l.arch (take l.place (map package_view l.packages))) l.self
