-- What is found of an index once for all verdicts.
use Rattle.std.proofs.Common.{◌≡◌, ◌⊎◌, ℕ, ◌+◌, ◌<◌, ◌≤◌, Bool, true, eqb, List, [], ◌∷◌, ◌++◌, length, get_or, All, Some, sym, subst, ◌∙◌, ap, inl, inr, arith}
use Rattle.std.specs.List.{list_any, list_all}
use Rattle.std.proofs.lemmas.Bool.{cases_lt, false≢true, eqb-true}
use Rattle.std.proofs.lemmas.List.{get_or_append_left, get_or_push, length_push}
use Rattle.std.proofs.lemmas.Option.{slice_get_within, get_or_from_slice_get, slice_get-get_or}
use Rattle.deb_index.specs.Packages.{IndexView, package_at, places_of, aparts_at, need_at, apart_at}
use Rattle.deb_index.specs.Meets.{satisfiers, group_satisfiers}
use Rattle.deb_index.specs.Constraints.{answers, hits, IsAlone}
use Rattle.number_sets.specs.Sets.{NumberSet, members_of, MarksOnly, IsWithin, AreNumbers, Grows, with_number}
use Rattle.deb_groundwork.specs.Groundwork.{KeepsForced}
use Rattle.deb_health.specs.Health.{IsHealthy, IsInstallation}
use Rattle.deb_groundwork.proofs.Forcing.{member_answers}
use Rattle.deb_index.proofs.IndexFacts.{member_satisfiers}
use Rattle.number_sets.proofs.Placing.{numbers_empty, grows_with, grows_keeps, with_number_has, with_number_only}
use Rattle.number_sets.proofs.ListMembers.{any_member, all_member}

-- ---- needs that are answered by what is in

-- a place that is in answers the need
abbrev pub IsAnsweredBy : IndexView → NumberSet → ℕ → ℕ → Type 0
IsAnsweredBy index forced place j = (q : ℕ) × (forced q ≡ true) × (answers index place j q ≡ true)

pub answered_by_row : (index : IndexView) (forced : NumberSet) (place j : ℕ) (row : List ℕ) → row ≡ group_satisfiers index (need_at index place j) → list_any forced row ≡ true → IsAnsweredBy index forced place j
answered_by_row index forced place j row row_is holds =
    let at = any_member forced row holds in
    (at.0, at.1, sym (ap (λ list. members_of list at.0) row_is ∙ member_answers index place j at.0) ∙ at.2)

-- ---- entries that hit no other place, and names that no earlier place has

-- where the row of an entry has one place only, the entry hits no other one
pub hits_only : (index : IndexView) (place j : ℕ) (row : List ℕ) → row ≡ satisfiers index (apart_at index place j) → list_all (λ other. eqb other place) row ≡ true
    → (q : ℕ) → hits index place j q ≡ true → q ≡ place
hits_only index place j row row_is holds q hit =
    eqb-true q place (all_member (λ other. eqb other place) row q holds (ap (λ list. members_of list q) row_is ∙ (member_satisfiers index (apart_at index place j) q ∙ hit)))

pub stands_alone : (index : IndexView) (place count : ℕ) (row : List ℕ) → length (aparts_at index place) ≤ count
    → ((j : ℕ) → j < count → (q : ℕ) → hits index place j q ≡ true → q ≡ place)
    → row ≡ places_of index (package_at index place).name → list_all (λ other. eqb other place) row ≡ true → IsAlone index place
stands_alone index place count row past none row_is is_only = record {
  hits_none = λ j inside. none j (omega (arith, inside, past));
  only = λ q named. eqb-true q place (all_member (λ other. eqb other place) row q is_only (ap (λ list. members_of list q) row_is ∙ named));
}

-- ---- marks

marks_more : (Property : ℕ → Type 0) (marks : List Bool) (place : ℕ) (mark : Bool) → length marks ≡ place → (mark ≡ true → Property place) → MarksOnly Property marks → MarksOnly Property (marks ++ mark ∷ [])
marks_more Property marks place mark size here so_far q there =
    let inside : q < length (marks ++ mark ∷ []) = slice_get_within (marks ++ mark ∷ []) q true there in
    let is : get_or (marks ++ mark ∷ []) q true ≡ true = get_or_from_slice_get (marks ++ mark ∷ []) q true true there in
    elim (cases_lt q (length marks)) [
      | inl before ↦
          so_far q (slice_get-get_or marks q true before ∙ ap (λ b. Some b) (sym (get_or_append_left marks (mark ∷ []) true q before) ∙ is))
      | inr past ↦
          let last : length marks ≡ q = omega (arith, past, inside, length_push marks mark) in
          subst Property (sym size ∙ last) (here (sym (get_or_push marks mark true q last) ∙ is))
    ]

-- as many marks as places, each of them right
abbrev pub MarksFirst : (ℕ → Type 0) → ℕ → List Bool → Type 0
MarksFirst Property count marks = (length marks ≡ count) × MarksOnly Property marks

pub one_mark_more : (Property : ℕ → Type 0) (before after : List Bool) (place : ℕ) (mark : Bool) → after ≡ before ++ mark ∷ [] → (mark ≡ true → Property place) → MarksFirst Property place before → MarksFirst Property (place + 1) after
one_mark_more Property before after place mark appended here first =
    let First : List Bool → Type 0 = λ list. MarksFirst Property (place + 1) list in
    let size : length (before ++ mark ∷ []) ≡ place + 1 = omega (arith, length_push before mark, first.0) in
    subst First (sym appended) (size, marks_more Property before place mark first.0 here first.1)

-- ---- places that are in every set

pub empty_are_places : (count : ℕ) (places : List ℕ) → places ≡ [] → AreNumbers count places
empty_are_places count places empty =
    let Are : List ℕ → Type 0 = λ list. AreNumbers count list in
    subst Are (sym empty) (numbers_empty count)

pub forced_in_all : (index : IndexView) (start between after : List ℕ) → start ≡ [] → KeepsForced index start between → KeepsForced index between after
    → (set : NumberSet) → IsHealthy index set → IsWithin (members_of after) set
forced_in_all index start between after empty first second set healthy =
    second.forced set healthy (first.forced set healthy (λ q is_in. absurd (false≢true (sym (ap (λ list. members_of list q) empty) ∙ is_in))))

-- ---- and those that are in every set with p

module _ (index : IndexView) (p : ℕ) (forced row empty extended started : List ℕ) (row_is : row ≡ forced) (empty_is : empty ≡ []) (started_is : started ≡ with_number extended p) where
  pub first_places : p < length index.packages → AreNumbers (length index.packages) forced
      → ((count : ℕ) → All (λ place. place < count) row → Grows count empty extended) → AreNumbers (length index.packages) started
  first_places is_place are grows =
      let count : ℕ = length index.packages in
      let Within : List ℕ → Type 0 = λ list. All (λ place. place < count) list in
      let Are : List ℕ → Type 0 = λ list. AreNumbers count list in
      let extends : Grows count empty extended = grows count (subst Within (sym row_is) are.within) in
      subst Are (sym started_is) ((grows_with count extended p is_place).places (extends.places (subst Are (sym empty_is) (numbers_empty count))))

  module _ (after : List ℕ) (keeps : KeepsForced index started after) where
    pub first_start : members_of after p ≡ true
    first_start = grows_keeps (length index.packages) started after keeps.grows p (ap (λ list. members_of list p) started_is ∙ with_number_has extended p)

    pub first_forced : ((set : NumberSet) → IsHealthy index set → IsWithin (members_of forced) set)
        → ((q : ℕ) → members_of extended q ≡ true → (members_of empty q ≡ true) ⊎ (members_of row q ≡ true))
        → (set : NumberSet) → IsInstallation index p set → IsWithin (members_of after) set
    first_forced in_all only set installed =
        keeps.forced set installed.0 (λ q is_in.
        elim (with_number_only extended p q (sym (ap (λ list. members_of list q) started_is) ∙ is_in)) [
          | inl old ↦ elim (only q old) [
            | inl never ↦ absurd (false≢true (sym (ap (λ list. members_of list q) empty_is) ∙ never))
            | inr listed ↦ in_all set installed.0 q (sym (ap (λ list. members_of list q) row_is) ∙ listed)
          ]
          | inr it ↦ ap set (sym it) ∙ installed.1
        ])

    pub first_ground : IsWithin (members_of row) (members_of extended) → IsWithin (members_of forced) (members_of after)
    first_ground has q is_in =
        grows_keeps (length index.packages) started after keeps.grows q
        (ap (λ list. members_of list q) started_is
        ∙ grows_keeps (p + 1) extended (with_number extended p) (grows_with (p + 1) extended p (omega arith)) q (has q (ap (λ list. members_of list q) row_is ∙ is_in)))
