use Rattle.std.proofs.Common.{◌≡◌, ℕ, map, take}
use Rattle.std.specs.List.{list_any}
use Rattle.deb_relation.specs.Relationship.{atom_view}
use Rattle.deb_index.specs.Packages.{is_in}
use Rattle.deb_index.specs.Rows.{meets_as_at}
use Rattle.deb_index.proofs.satisfiers.Satisfiers.find.Given as goal

abbrev pub invariant-loop-atom : goal.invariant-loop-atom
invariant-loop-atom l =
    (l.self ≡ l.initial.self) × ((q : ℕ) → is_in l.found.items q ≡ list_any (meets_as_at l.role l.initial.self q) (map atom_view (take l.atom-index l.asked)))
