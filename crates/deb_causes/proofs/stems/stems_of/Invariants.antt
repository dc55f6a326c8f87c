use Rattle.std.proofs.Common.{◌≡◌, [], true, All, map, take}
use Rattle.std.specs.HashMap.{keys, values}
use Rattle.deb_relation.specs.Relationship.{atom_view}
use Rattle.deb_causes.specs.Near.{stem, has_text}
use Rattle.deb_causes.proofs.stems.stems_of.Given as goal

abbrev pub invariant-loop-atom : goal.invariant-loop-atom
invariant-loop-atom l = All (λ atom. has_text (map (λ key. key.items) (keys l.lists)) (stem atom.name) ≡ true) (map (λ atom. atom_view atom.now) (take l.atom-index l.atom-items))
    × All (λ list. list.items ≡ []) (values l.lists)
