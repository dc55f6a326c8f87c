use Rattle.std.proofs.Common.{◌≡◌, ◌&&◌, ◌||◌, ℕ, take}
use Rattle.deb_relation.specs.Relationship.{atom_view}
use Rattle.deb_index.specs.Packages.{is_in}
use Rattle.deb_index.specs.Rows.{meets_as_at}
use Rattle.deb_index.proofs.lookup.Lookup.add_named.Given as goal

abbrev pub invariant-loop-place : goal.invariant-loop-place
invariant-loop-place l = (q : ℕ) → is_in l.found.items q ≡ (is_in l.initial.found.items q || (is_in (take l.place-index l.places) q && meets_as_at l.role l.self q (atom_view l.atom)))
