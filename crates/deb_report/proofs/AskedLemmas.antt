-- Lemmas on the asked places.
use Rattle.std.proofs.Common.{◌≡◌, ◌+◌, ◌∙◌, true, List, ℕ, Option, Some, None, Ok, Err, ap, arith, nat_le, slice_get, sym}
use Rattle.std.specs.Option.{option_map_or}
use Rattle.deb_index.specs.Packages.{IndexView, is_named, places_of}
use Rattle.deb_report.specs.Outcome.{asked_places, foreground_packages, is_empty, is_unknown, listed_places, unknown_in, unless_unknown}
use Rattle.deb_index.proofs.MemberLemmas.{where_from}
use Rattle.number_sets.proofs.PlaceLemmas.{none_below, none_in_front, places_from}

pub asked-known : (index : IndexView) (only : Option (List (List ℕ))) (places : List ℕ) → unknown_in index only ≡ None → places ≡ listed_places index only → asked_places index only ≡ Ok places
unfolding asked_places
asked-known index only places known is = ap (λ (found : Option (List ℕ)). unless_unknown found (listed_places index only)) known ∙ ap (λ (listed : List ℕ). unless_unknown None listed) (sym is)

pub asked-unknown : (index : IndexView) (only : Option (List (List ℕ))) (name : List ℕ) → unknown_in index only ≡ Some name → asked_places index only ≡ Err name
unfolding asked_places
asked-unknown index only name unknown = ap (λ (found : Option (List ℕ)). unless_unknown found (listed_places index only)) unknown

-- whether a name is unknown, by the first of all places that it has
unknown-by : (index : IndexView) (name places : List ℕ) → places ≡ places_of index name → is_unknown index name ≡ none_below index.foreground places
unknown-by index name places is =
    let whole : 0 + index.foreground ≡ index.foreground = omega arith in
    ap is_empty (where_from (is_named name) (foreground_packages index))
    ∙ none_in_front (is_named name) 0 index.foreground index.packages
    ∙ ap (λ limit. none_below limit (places_from (is_named name) 0 index.packages)) whole
    ∙ ap (none_below index.foreground) (sym (is ∙ where_from (is_named name) index.packages))

pub known-first : (index : IndexView) (name places : List ℕ) (place : ℕ) → places ≡ places_of index name → slice_get places 0 ≡ Some place → nat_le index.foreground place ≡ is_unknown index name
known-first index name places place is first =
    sym (unknown-by index name places is ∙ ap (λ (found : Option ℕ). option_map_or (λ p. nat_le index.foreground p) found true) first)

pub unknown-none : (index : IndexView) (name places : List ℕ) → places ≡ places_of index name → slice_get places 0 ≡ None → true ≡ is_unknown index name
unknown-none index name places is none =
    sym (unknown-by index name places is ∙ ap (λ (found : Option ℕ). option_map_or (λ p. nat_le index.foreground p) found true) none)
