use Rattle.std.proofs.Common.{◌≡◌, map, take}
use Rattle.std.specs.List.{flat_map}
use Rattle.deb_relation.specs.Relationship.{atom_view}
use Rattle.deb_causes.proofs.NearLemmas.{places_by}
use Rattle.deb_causes.proofs.near.near_places.Given as goal

abbrev pub invariant-loop-atom : goal.invariant-loop-atom
invariant-loop-atom l = l.places.items ≡ flat_map (places_by l.index) (map (λ atom. atom_view atom.now) (take l.atom-index l.atoms))
