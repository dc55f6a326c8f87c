-- Places that are in every healthy set with p: one step more.
use Rattle.std.proofs.Common.{◌≡◌, ◌⊎◌, ℕ, ◌+◌, ◌<◌, true, false, eqb, List, [], ◌∷◌, length, Option, Some, None, slice_get, refl, sym, subst, ◌∙◌, ap, inl, inr}
use Rattle.std.specs.List.{list_any}
use Rattle.std.specs.Option.{option_map_or}
use Rattle.std.proofs.lemmas.Bool.{false≢true, or_cases, or_left, eqb-true, eq-eqb}
use Rattle.deb_relation.specs.Relationship.{AtomText}
use Rattle.deb_index.specs.declared.constraint.Constraint.TheVariants.{Essential, Need}
use Rattle.deb_index.specs.Packages.{IndexView, PackageView, needs_at, need_at}
use Rattle.deb_index.specs.Meets.{meets_need, group_satisfiers}
use Rattle.deb_index.specs.Constraints.{Holds, constraints_of, has_name, answers}
use Rattle.deb_index.proofs.MemberLemmas.{member-places_where}
use Rattle.number_sets.specs.Sets.{NumberSet, members_of, IsWithin, with_number}
use Rattle.deb_health.specs.Health.{IsHealthy}
use Rattle.deb_index.specs.Links.{first_position}
use Rattle.deb_index.proofs.PositionLemmas.{essential_position, need-place}
use Rattle.deb_groundwork.specs.Groundwork.{IsEssentialRow, KeepsForced}
use Rattle.deb_index.proofs.IndexFacts.{All-at, member_named, named_is_place, answers_is_place}
use Rattle.number_sets.proofs.Placing.{grows_none, grows_both, grows_with, with_number_only}

-- ---- what stands in a row

none_meets : (group : List AtomText) → list_any (λ atom. false) group ≡ false
none_meets [] = refl
none_meets (atom ∷ group) = none_meets group

group_met : (arch : List ℕ) (group : List AtomText) (found : Option PackageView)
    → option_map_or (λ item. list_any (meets_need arch item) group) found false ≡ list_any (λ atom. option_map_or (λ item. meets_need arch item atom) found false) group
group_met arch group None = sym (none_meets group)
group_met arch group (Some item) = refl

-- the places of a need's row are those that answer it
pub member_answers : (index : IndexView) (p j q : ℕ) → members_of (group_satisfiers index (need_at index p j)) q ≡ answers index p j q
member_answers index p j q =
    member-places_where (λ item. list_any (meets_need index.arch item) (need_at index p j)) index.packages q
    ∙ group_met index.arch (need_at index p j) (slice_get index.packages q)

in_single : (only q : ℕ) → members_of (only ∷ []) q ≡ true → q ≡ only
in_single only q is_in =
    elim (or_cases (eqb only q) false is_in) [
      | inl here ↦ sym (eqb-true only q here)
      | inr never ↦ absurd (false≢true never)
    ]

single_has : (only : ℕ) → members_of (only ∷ []) only ≡ true
single_has only = or_left (eqb only only) false (eq-eqb only only refl)

-- ---- steps

-- each need has its constraint in the index's list
pub need_stands : (index : IndexView) (p j : ℕ) → p < length index.packages → j < length (needs_at index p) → (k : ℕ) × (slice_get (constraints_of index) k ≡ Some (Need p j))
need_stands index p j is_place inside = (first_position index p + j, need-place index p j (first_position index p + j) is_place inside refl)

pub forced_none : (index : IndexView) (places : List ℕ) → KeepsForced index places places
forced_none index places = record { grows = grows_none (length index.packages) places; forced = λ set healthy within. within }

pub forced_both : (index : IndexView) (before between after : List ℕ) → KeepsForced index before between → KeepsForced index between after → KeepsForced index before after
forced_both index before between after first second = record {
  grows = grows_both (length index.packages) before between after first.grows second.grows;
  forced = λ set healthy within. second.forced set healthy (first.forced set healthy within);
}

pub forced_moved : (index : IndexView) (before after other : List ℕ) → after ≡ other → KeepsForced index before other → KeepsForced index before after
forced_moved index before after other same keeps =
    let To : List ℕ → Type 0 = λ list. KeepsForced index before list in
    subst To (sym same) keeps

-- a place that each healthy set has with those that are in
forced_with : (index : IndexView) (places : List ℕ) (q : ℕ) → q < length index.packages
    → ((set : NumberSet) → IsHealthy index set → IsWithin (members_of places) set → set q ≡ true) → KeepsForced index places (with_number places q)
forced_with index places q is_place has = record {
  grows = grows_with (length index.packages) places q is_place;
  forced = λ set healthy within number is_in.
      elim (with_number_only places q number is_in) [
        | inl before ↦ within number before
        | inr here ↦ ap set (sym here) ∙ has set healthy within
      ];
}

-- nothing came, or the only place of a row
abbrev TakesOnly : List ℕ → List ℕ → List ℕ → Type 0
TakesOnly row before after = (after ≡ before) ⊎ ((only : ℕ) × (row ≡ only ∷ []) × (after ≡ with_number before only))

-- the only answer to a need of a place that is in
pub forced_by_need : (index : IndexView) (member j : ℕ) (row before after : List ℕ) → member < length index.packages → j < length (needs_at index member) → members_of before member ≡ true
    → row ≡ group_satisfiers index (need_at index member j) → TakesOnly row before after → KeepsForced index before after
forced_by_need index member j row before after is_place inside is_in row_is (inl same) = forced_moved index before after before same (forced_none index before)
forced_by_need index member j row before after is_place inside is_in row_is (inr took) =
    let only : ℕ = took.0 in
    let alone : (q : ℕ) → members_of (only ∷ []) q ≡ answers index member j q = λ q. ap (λ list. members_of list q) (sym took.1 ∙ row_is) ∙ member_answers index member j q in
    let there = need_stands index member j is_place inside in
    forced_moved index before after (with_number before only) took.2
    (forced_with index before only (answers_is_place index member j only (sym (alone only) ∙ single_has only))
    (λ set healthy within.
    (let found = All-at (Holds index set) (constraints_of index) there.0 (Need member j) healthy there.1 (within member is_in) in
    ap set (sym (in_single only found.0 (alone found.0 ∙ found.2))) ∙ found.1)))

-- the only package of an essential name
pub forced_by_name : (index : IndexView) (position : ℕ) (row before after : List ℕ) → IsEssentialRow index position row → TakesOnly row before after → KeepsForced index before after
forced_by_name index position row before after named (inl same) = forced_moved index before after before same (forced_none index before)
forced_by_name index position row before after named (inr took) =
    let only : ℕ = took.0 in
    let alone : (q : ℕ) → members_of (only ∷ []) q ≡ has_name index q named.name = λ q. ap (λ list. members_of list q) (sym took.1 ∙ named.is) ∙ member_named index named.name q in
    let there = essential_position index position named.name named.at in
    forced_moved index before after (with_number before only) took.2
    (forced_with index before only (named_is_place index only named.name (sym (alone only) ∙ single_has only))
    (λ set healthy within.
    (let found = All-at (Holds index set) (constraints_of index) position (Essential named.name) healthy there in
    ap set (sym (in_single only found.0 (alone found.0 ∙ found.2))) ∙ found.1)))
