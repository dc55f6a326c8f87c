use Rattle.std.proofs.Common.{◌≡◌, ◌||◌, ℕ, take}
use Rattle.std.specs.List.{list_any}
use Rattle.deb_relation.specs.Relationship.{atom_view}
use Rattle.deb_index.specs.Packages.{is_in}
use Rattle.deb_index.proofs.OfferLemmas.{usable_of}
use Rattle.deb_index.proofs.lookup.Lookup.add_offers.Given as goal

abbrev pub invariant-loop-offer : goal.invariant-loop-offer
invariant-loop-offer l = (q : ℕ) → is_in l.found.items q ≡ (is_in l.initial.found.items q || list_any (usable_of l.role l.self (atom_view l.atom) q) (take l.offer-index l.offers))
