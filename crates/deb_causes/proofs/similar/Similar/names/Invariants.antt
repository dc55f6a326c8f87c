use Rattle.std.proofs.Common.{map, take}
use Rattle.std.specs.List.{flat_map}
use Rattle.deb_relation.specs.Relationship.{atom_view}
use Rattle.deb_causes.specs.Near.{similar_to, IsTold}
use Rattle.deb_causes.proofs.similar.Similar.names.Given as goal

abbrev pub invariant-loop-atom : goal.invariant-loop-atom
invariant-loop-atom l = IsTold (map (λ atom. atom_view atom.now) l.atom-items)
    (flat_map (λ atom. similar_to l.index atom.name) (map (λ atom. atom_view atom.now) (take l.atom-index l.atom-items))) l.told
