-- Places that no healthy set has: what one more is found by.
use Rattle.std.proofs.Common.{◌≡◌, ℕ, ◌<◌, true, List, length, sym, subst, ◌∙◌, ap, inl, inr}
use Rattle.std.specs.List.{list_all}
use Rattle.deb_index.specs.declared.constraint.Constraint.TheVariants.{Essential, Need}
use Rattle.deb_index.specs.Packages.{IndexView, needs_at, need_at}
use Rattle.deb_index.specs.Meets.{group_satisfiers}
use Rattle.deb_index.specs.Constraints.{Holds, constraints_of, answers}
use Rattle.number_sets.specs.Sets.{NumberSet, members_of, IsWithin, with_number}
use Rattle.deb_health.specs.Health.{IsHopeless}
use Rattle.deb_groundwork.specs.Groundwork.{AreHopeless, IsEssentialRow}
use Rattle.deb_index.proofs.PositionLemmas.{essential_position}
use Rattle.deb_groundwork.proofs.Forcing.{member_answers, need_stands}
use Rattle.deb_index.proofs.IndexFacts.{All-at, member_named}
use Rattle.number_sets.proofs.ListMembers.{all_member}
use Rattle.number_sets.proofs.Placing.{with_number_only}

-- a need whose row has such places alone
pub unanswered_row : (index : IndexView) (places : NumberSet) (place number : ℕ) (row : List ℕ) → row ≡ group_satisfiers index (need_at index place number)
    → list_all places row ≡ true → IsWithin (answers index place number) places
unanswered_row index places place number row row_is all q answered =
    all_member places row q all (ap (λ list. members_of list q) row_is ∙ (member_answers index place number q ∙ answered))

-- a place that needs such places is one too
pub hopeless_by_need : (index : IndexView) (places : NumberSet) (place number : ℕ) → place < length index.packages → number < length (needs_at index place) → AreHopeless index places
    → IsWithin (answers index place number) places → IsHopeless index place
hopeless_by_need index places place number is_place is_need hopeless lost set installed =
    let there = need_stands index place number is_place is_need in
    let found = All-at (Holds index set) (constraints_of index) there.0 (Need place number) installed.0 there.1 installed.1 in
    hopeless found.0 (lost found.0 found.2) set (installed.0, found.1)

pub hopeless_with : (index : IndexView) (before after : List ℕ) (place : ℕ) → after ≡ with_number before place → AreHopeless index (members_of before) → IsHopeless index place
    → AreHopeless index (members_of after)
hopeless_with index before after place placed hopeless here q is_in =
    elim (with_number_only before place q (sym (ap (λ list. members_of list q) placed) ∙ is_in)) [
      | inl old ↦ hopeless q old
      | inr same ↦ subst (IsHopeless index) same here
    ]

-- where an essential name has such places alone, no place is in a healthy set
pub hopeless_by_name : (index : IndexView) (places : NumberSet) (position : ℕ) (row : List ℕ) → IsEssentialRow index position row → AreHopeless index places
    → list_all places row ≡ true → (place : ℕ) → IsHopeless index place
hopeless_by_name index places position row named hopeless all place set installed =
    let there = essential_position index position named.name named.at in
    let found = All-at (Holds index set) (constraints_of index) position (Essential named.name) installed.0 there in
    hopeless found.0 (all_member places row found.0 all (ap (λ xs. members_of xs found.0) named.is ∙ (member_named index named.name found.0 ∙ found.2))) set (installed.0, found.1)
