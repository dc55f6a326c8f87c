use Rattle.std.proofs.Common.{◌≡◌, map, take}
use Rattle.deb_relation.specs.Relationship.{atom_view}
use Rattle.deb_causes.specs.Near.{near_miss_at, near_view}
use Rattle.deb_causes.proofs.near.near_misses.Given as goal

abbrev pub invariant-loop-place : goal.invariant-loop-place
invariant-loop-place l = map near_view l.misses.items ≡ map (near_miss_at l.index (map (λ atom. atom_view atom.now) l.atoms.items)) (take l.place-index l.place-items)
