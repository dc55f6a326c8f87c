-- What the clauses that are added say of a constraint.
use Rattle.std.proofs.Common.{◌≡◌, ◌⊎◌, ℕ, true, ◌||◌, ◌&&◌, not, eqb, All, ◌<◌, get_or, arith, List, ◌++◌, ◌↔◌, sym, subst, ◌∙◌, ap, inl, inr}
use Rattle.std.specs.List.{list_any}
use Rattle.std.proofs.lemmas.Bool.{or_cases, or_left, or_right, and_parts, and_from}
use Rattle.std.proofs.lemmas.List.Elements.{All-append}
use Rattle.std.proofs.lemmas.List.Folds.{list_any-append}
use Rattle.deb_index.specs.declared.constraint.Constraint.TheVariants.{Essential, Need, Apart}
use Rattle.deb_index.specs.Packages.{IndexView, name_at, places_of, need_at, apart_at}
use Rattle.deb_index.specs.Meets.{meets_at, satisfiers, group_satisfiers}
use Rattle.deb_index.specs.Constraints.{Holds, is_holding}
use Rattle.deb_index.proofs.HoldsLemmas.{holds-from-test, test-from-holds}
use Rattle.number_sets.specs.Sets.{NumberSet, members_of, positions_of}
use Rattle.deb_encode.specs.Play.{places_in_play, placed}
use Rattle.deb_encode.specs.Encoders.{KeepsOut}
use Rattle.number_sets.proofs.ListMembers.{at_members_of, members_of_at}
use Rattle.deb_index.proofs.IndexFacts.{member_satisfiers}
use Rattle.number_sets.proofs.PositionsOf.{group_at}

-- what is placed is in play
pub placed_in_play : (forced candidates : List ℕ) (vars : NumberSet) (q : ℕ) → placed forced candidates vars q ≡ true → (members_of forced q ≡ true) ⊎ (members_of candidates q ≡ true)
placed_in_play forced candidates vars q is_there =
    elim (or_cases (members_of forced q) (positions_of candidates vars q) is_there) [
      | inl is_in ↦ inl is_in
      | inr of_variable ↦ let at = group_at candidates vars q of_variable in inr (ap (members_of candidates) (sym at.3) ∙ at_members_of candidates at.0 at.1)
    ]

pub in_play_either : (forced candidates : List ℕ) (q : ℕ) → members_of (forced ++ candidates) q ≡ places_in_play (members_of forced) candidates q
in_play_either forced candidates q = list_any-append (λ member. eqb member q) forced candidates

pub in_play_placed : (forced candidates : List ℕ) (vars : NumberSet) (q : ℕ) → placed forced candidates vars q ≡ true → members_of (forced ++ candidates) q ≡ true
in_play_placed forced candidates vars q is_there =
    in_play_either forced candidates q
    ∙ (elim (placed_in_play forced candidates vars q is_there) [
      | inl is_in ↦ or_left (members_of forced q) (members_of candidates q) is_in
      | inr member ↦ or_right (members_of forced q) (members_of candidates q) member
    ])

pub in_play_within : (forced candidates : List ℕ) (count : ℕ) → All (λ q. q < count) forced → All (λ q. q < count) candidates → (q : ℕ) → members_of (forced ++ candidates) q ≡ true → q < count
in_play_within forced candidates count forced_within candidates_within q is_in =
    let at = members_of_at (forced ++ candidates) q is_in in
    let below : get_or (forced ++ candidates) at.0 0 < count = All-append (λ p. p < count) forced candidates forced_within candidates_within at.0 0 at.1 in
    omega (arith, below, at.2)

module _ (index : IndexView) where
  -- what a clause says of a need, and of an essential name
  module _ (set : NumberSet) where
    need_says : (p j : ℕ) → ((not (set p) || list_any set (group_satisfiers index (need_at index p j))) ≡ true) ↔ Holds index set (Need p j)
    unfolding is_holding
    need_says p j = (holds-from-test index set (Need p j), test-from-holds index set (Need p j))

    pub need_by_row : (p j : ℕ) (row : List ℕ) → row ≡ group_satisfiers index (need_at index p j) → ((not (set p) || list_any set row) ≡ true) ↔ Holds index set (Need p j)
    need_by_row p j row same = (let Of : List ℕ → Type 0 = λ list. ((not (set p) || list_any set list) ≡ true) ↔ Holds index set (Need p j) in subst Of (sym same) (need_says p j))

    essential_says : (number : ℕ) → (list_any set (places_of index (name_at index number)) ≡ true) ↔ Holds index set (Essential number)
    unfolding is_holding
    essential_says number = (holds-from-test index set (Essential number), test-from-holds index set (Essential number))

    pub essential_by_row : (number : ℕ) (row : List ℕ) → row ≡ places_of index (name_at index number) → (list_any set row ≡ true) ↔ Holds index set (Essential number)
    essential_by_row number row same = (let Of : List ℕ → Type 0 = λ list. (list_any set list ≡ true) ↔ Holds index set (Essential number) in subst Of (sym same) (essential_says number))

    -- the row of what meets an entry
    pub row_says : (p j : ℕ) (row : List ℕ) → row ≡ satisfiers index (apart_at index p j) → (KeepsOut p row set ↔ Holds index set (Apart p j))
    row_says p j row same =
        let met : (q : ℕ) → members_of row q ≡ meets_at index q (apart_at index p j) = λ q. ap (λ list. members_of list q) same ∙ member_satisfiers index (apart_at index p j) q in (
          λ out has q is_in hit. out q (met q ∙ hit) has is_in,
          λ holds q there has is_in. holds has q is_in (sym (met q) ∙ there),
        )

  -- the places in play that meet it
  pub meeting_says : (forced candidates : List ℕ) (vars : NumberSet) (p j : ℕ) (found : List ℕ) → ((q : ℕ) → members_of found q ≡ (members_of (forced ++ candidates) q && meets_at index q (apart_at index p j)))
      → (KeepsOut p found (placed forced candidates vars) ↔ Holds index (placed forced candidates vars) (Apart p j))
  meeting_says forced candidates vars p j found are = (
    λ out has q is_in hit. out q (are q ∙ and_from (members_of (forced ++ candidates) q) (meets_at index q (apart_at index p j)) (in_play_placed forced candidates vars q is_in) hit) has is_in,
    λ holds q there has is_in. holds has q is_in (and_parts (members_of (forced ++ candidates) q) (meets_at index q (apart_at index p j)) (sym (are q) ∙ there)).1,
  )
