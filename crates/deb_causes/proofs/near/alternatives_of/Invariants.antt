use Rattle.std.proofs.Common.{◌≡◌, map, take}
use Rattle.std.specs.List.{flat_map}
use Rattle.deb_relation.specs.Relationship.{atom_view}
use Rattle.deb_causes.specs.Near.{alternatives}
use Rattle.deb_causes.proofs.near.alternatives_of.Given as goal

abbrev pub invariant-loop-constraint : goal.invariant-loop-constraint
invariant-loop-constraint l = map (λ atom. atom_view atom.now) l.atoms.items ≡ flat_map (alternatives l.index) (take l.constraint-index l.constraints)
