use Rattle.std.proofs.Common.{◌≡◌, false, map, take}
use Rattle.deb_relation.specs.Relationship.{atom_view}
use Rattle.deb_causes.specs.Near.{is_one_of}
use Rattle.deb_causes.proofs.near.is_one_of.Given as goal

abbrev pub invariant-loop-atom : goal.invariant-loop-atom
invariant-loop-atom l = is_one_of (map (λ atom. atom_view atom.now) (take l.atom-index l.atoms)) l.name ≡ false
