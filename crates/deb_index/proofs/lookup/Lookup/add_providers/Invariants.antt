use Rattle.std.proofs.Common.{◌≡◌, ◌||◌, ℕ, take}
use Rattle.std.specs.List.{list_any}
use Rattle.deb_relation.specs.Relationship.{atom_view}
use Rattle.deb_index.specs.Packages.{is_in}
use Rattle.deb_index.proofs.ProviderLemmas.{is_entry_of}
use Rattle.deb_index.proofs.lookup.Lookup.add_providers.Given as goal

abbrev pub invariant-loop-entry : goal.invariant-loop-entry
invariant-loop-entry l = (q : ℕ) → is_in l.found.items q ≡ (is_in l.initial.found.items q || list_any (is_entry_of l.role l.self (atom_view l.atom) q) (take l.entry-index l.entries))
