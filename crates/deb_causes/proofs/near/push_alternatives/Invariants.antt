use Rattle.std.proofs.Common.{◌≡◌, ◌++◌, map, take}
use Rattle.deb_relation.specs.Relationship.{atom_view}
use Rattle.deb_causes.proofs.near.push_alternatives.Given as goal

abbrev pub invariant-loop-atom : goal.invariant-loop-atom
invariant-loop-atom l = map (λ atom. atom_view atom.now) l.atoms.items ≡ map (λ atom. atom_view atom.now) l.initial.atoms.items ++ map atom_view (take l.atom-index l.group)
