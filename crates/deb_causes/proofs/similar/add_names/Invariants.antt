use Rattle.std.proofs.Common.{◌≡◌, ℕ, List, map, take}
use Rattle.deb_relation.specs.Relationship.{atom_view}
use Rattle.deb_causes.specs.Near.{is_one_of, has_text}
use Rattle.deb_causes.proofs.similar.add_names.Given as goal

abbrev pub invariant-loop-atom : goal.invariant-loop-atom
invariant-loop-atom l = (name : List ℕ) → has_text (map (λ one. one.items) l.own.keys) name ≡ is_one_of (map (λ atom. atom_view atom.now) (take l.atom-index l.atoms)) name
