use Rattle.std.proofs.Common.{◌≡◌, ◌||◌, ℕ, Bool, List, eqb, false, take}
use Rattle.std.specs.List.{list_any}
use Rattle.std.specs.Option.{option_map_or}
use Rattle.deb_index.specs.Rows.{is_offer, provided_version_at, version_at}
use Rattle.deb_index.proofs.OfferLemmas.{has_version, provides_version}
use Rattle.deb_index.proofs.lookup.Lookup.offers.Given as goal

abbrev pub invariant-loop-place : goal.invariant-loop-place
invariant-loop-place l = (q : ℕ) (test : List ℕ → Bool) → list_any (is_offer q test) l.offers.items ≡ list_any (has_version l.self test q) (take l.place-index l.candidates.named.now)

abbrev pub invariant-loop-entry : goal.invariant-loop-entry
invariant-loop-entry l = (q : ℕ) (test : List ℕ → Bool) → list_any (is_offer q test) l.offers.items
    ≡ (list_any (has_version l.self test q) l.candidates.named.now || list_any (provides_version l.self test q) (take l.entry-index l.candidates.provided.now))
