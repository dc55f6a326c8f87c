-- What is shown speaks of what the index has.
use Rattle.std.proofs.Common.{◌≡◌, ◌<◌, ℕ, Bool, List, [], ◌∷◌, All, filter, length, map}
use Rattle.std.proofs.lemmas.List.Elements.{All-cons, All-filter, All-head, All-map, All-nil, All-same, All-tail, All-weaker}
use Rattle.std.specs.List.{zip}
use Rattle.deb_index.specs.Packages.{IndexView}
use Rattle.deb_health.specs.Verdicts.{SpeaksOf, ToldView, IsAskedOf, shown_view}
use Rattle.run_settings.specs.declared.config.Show.{Show}
use Rattle.deb_health.specs.declared.shown.Shown.{Shown}
use Rattle.deb_report.specs.Outcome.{is_shown, shown_of}
use Rattle.number_sets.proofs.ListLemmas.{all_seen}

asked-within : (index : IndexView) (asked : List ℕ) (verdicts : List ToldView) → All (λ place. place < length index.packages) asked → All (SpeaksOf index) verdicts
    → All (IsAskedOf index) (zip asked verdicts)
asked-within index [] verdicts places within = All-nil (IsAskedOf index)
asked-within index (p ∷ ps) [] places within = All-nil (IsAskedOf index)
asked-within index (p ∷ ps) (v ∷ vs) places within =
    All-cons (IsAskedOf index) (p, v) (zip ps vs)
    (All-head (λ place. place < length index.packages) p ps places, All-head (SpeaksOf index) v vs within)
    (asked-within index ps vs (All-tail (λ place. place < length index.packages) p ps places) (All-tail (SpeaksOf index) v vs within))

pub shown-within : (index : IndexView) (show : Show) (asked : List ℕ) (verdicts : List ToldView) (shown : List Shown) → map shown_view shown ≡ shown_of show asked verdicts
    → All (λ place. place < length index.packages) asked → All (SpeaksOf index) verdicts → All (λ one. IsAskedOf index (shown_view one)) shown
shown-within index show asked verdicts shown are places within =
    all_seen (IsAskedOf index) shown_view shown
    (All-same (IsAskedOf index) (map shown_view shown) (shown_of show asked verdicts) are
    (All-filter (λ one. is_shown show one.1) (IsAskedOf index) (zip asked verdicts) (asked-within index asked verdicts places within)))

asked-placed : (limit : ℕ) (asked : List ℕ) (verdicts : List ToldView) → All (λ place. place < limit) asked → All (λ one. one.0 < limit) (zip asked verdicts)
asked-placed limit [] verdicts places = All-nil (λ (one : ℕ × ToldView). one.0 < limit)
asked-placed limit (p ∷ ps) [] places = All-nil (λ (one : ℕ × ToldView). one.0 < limit)
asked-placed limit (p ∷ ps) (v ∷ vs) places =
    All-cons (λ (one : ℕ × ToldView). one.0 < limit) (p, v) (zip ps vs) (All-head (λ place. place < limit) p ps places) (asked-placed limit ps vs (All-tail (λ place. place < limit) p ps places))

pub shown-placed : (limit : ℕ) (show : Show) (asked : List ℕ) (verdicts : List ToldView) (shown : List Shown) → map shown_view shown ≡ shown_of show asked verdicts
    → All (λ place. place < limit) asked → All (λ (one : Shown). one.place < limit) shown
shown-placed limit show asked verdicts shown are places =
    all_seen (λ (one : ℕ × ToldView). one.0 < limit) shown_view shown
    (All-same (λ (one : ℕ × ToldView). one.0 < limit) (map shown_view shown) (shown_of show asked verdicts) are
    (All-filter (λ one. is_shown show one.1) (λ (one : ℕ × ToldView). one.0 < limit) (zip asked verdicts) (asked-placed limit asked verdicts places)))

pub places-within : (index : IndexView) (told : List Shown) → All (λ one. IsAskedOf index (shown_view one)) told → All (λ place. place < length index.packages) (map (λ one. one.0) (map shown_view told))
places-within index told all =
    All-map (λ place. place < length index.packages) (λ (one : ℕ × ToldView). one.0) (map shown_view told)
    (All-map (λ (one : ℕ × ToldView). one.0 < length index.packages) shown_view told
    (All-weaker (λ (one : Shown). IsAskedOf index (shown_view one)) (λ (one : Shown). one.place < length index.packages) (λ one asked. asked.0) told all))

pub kept-within : (index : IndexView) (test : ℕ × ToldView → Bool) (told kept : List Shown) → map shown_view kept ≡ filter test (map shown_view told)
    → All (λ one. IsAskedOf index (shown_view one)) told → All (λ one. IsAskedOf index (shown_view one)) kept
kept-within index test told kept are all =
    all_seen (IsAskedOf index) shown_view kept
    (All-same (IsAskedOf index) (map shown_view kept) (filter test (map shown_view told)) are (All-filter test (IsAskedOf index) (map shown_view told) (All-map (IsAskedOf index) shown_view told all)))
