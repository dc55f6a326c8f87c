-- Candidates and needs that come, so that what is asked for is told.
use Rattle.std.proofs.Common.{◌≡◌, ◌⊎◌, ℕ, ◌+◌, ◌<◌, ◌≤◌, Bool, true, ◌||◌, eqb, List, [], ◌∷◌, ◌++◌, length, get_or, All, Contains, refl, sym, subst, ◌∙◌, ap, inl, inr, arith}
use Rattle.std.specs.List.{list_any}
use Rattle.std.specs.List.Sorted.{IsStrictlyIncreasing}
use Rattle.std.proofs.lemmas.Bool.{cases_lt, false≢true, or_cases, or_left, or_right, eqb-true}
use Rattle.std.proofs.lemmas.List.{get_or_past, get_or_default}
use Rattle.std.proofs.lemmas.List.Elements.{All-nil, All-push, Contains-append_left, Contains-push}
use Rattle.deb_relation.specs.Relationship.{AtomText}
use Rattle.deb_index.specs.declared.constraint.Constraint.TheVariants.{Need}
use Rattle.deb_index.specs.Packages.{IndexView, name_at, places_of, essential_names, needs_at, need_at}
use Rattle.deb_index.specs.Meets.{meets_need_at, group_satisfiers}
use Rattle.deb_index.specs.Constraints.{has_name, answers, IsOfIndex}
use Rattle.number_sets.specs.Sets.{NumberSet, members_of, IsWithin, MarksOnly, AreNumbers, Grows}
use Rattle.number_sets.proofs.ListMembers.{members_of_at, at_members_of, any_member, member_any, below_members}
use Rattle.number_sets.proofs.Placing.{grows_none, grows_both, grows_keeps}
use Rattle.deb_encode.specs.Play.{places_in_play}
use Rattle.deb_index.proofs.IndexFacts.{member_named}
use Rattle.deb_verdict.specs.declared.gather.UnmetNeed.{UnmetNeed}
use Rattle.deb_verdict.specs.declared.gather.Candidates.{Candidates}
use Rattle.deb_verdict.specs.Closure.{IsClosed, HasNames, IsTold, Gathers, IsGathered}
use Rattle.deb_groundwork.specs.Groundwork.{HasAnswers}
use Rattle.deb_verdict.proofs.Cutting.{IsEnough}
use Rattle.deb_groundwork.proofs.Forcing.{member_answers}
use Rattle.deb_groundwork.proofs.GroundworkLemmas.{answered_by_row}
use Rattle.deb_groundwork.proofs.RowLemmas.{more_below}
use mathlib.Core.Path.{fun_ext}

-- past the last group nothing is asked
pub no_answer : (index : IndexView) (place j q : ℕ) → length (needs_at index place) ≤ j → answers index place j q ≡ true → ⊥
no_answer index place j q past answered =
    false≢true (sym (ap (λ (group : List AtomText). list_any (meets_need_at index q) group) (get_or_past (needs_at index place) j [] past)) ∙ answered)

-- it is one of the first places of the list
abbrev pub IsAmong : List ℕ → ℕ → ℕ → ℕ → Type 0
IsAmong list number q j = (k : ℕ) × (k < number) × (get_or list k 0 ≡ q)

module _ (index : IndexView) (forced : NumberSet) where
  abbrev IsAnsweredAt : ℕ → ℕ → Type 0
  IsAnsweredAt place j = (q : ℕ) × (forced q ≡ true) × (answers index place j q ≡ true)

  abbrev AreNeeds : List UnmetNeed → Type 0
  AreNeeds list = All (λ need. IsOfIndex index (Need need.place need.number)) list

  -- ---- names

  abbrev pub IsNamed : ℕ → NumberSet → Type 0
  IsNamed name within = ((q : ℕ) × (forced q ≡ true) × (has_name index q name ≡ true)) ⊎ IsWithin (λ q. has_name index q name) within

  named_still : (name : ℕ) (within more : NumberSet) → IsWithin within more → IsNamed name within → IsNamed name more
  named_still name within more keeps (inl one) = inl one
  named_still name within more keeps (inr all) = inr (λ q named. keeps q (all q named))

  -- the next name of the list
  pub names_more : (list : List ℕ) (number : ℕ) (row before after : List ℕ) → row ≡ places_of index (name_at index (get_or list number 0)) → Grows (length index.packages) before after
      → (list_any forced row ≡ true) ⊎ IsWithin (members_of row) (members_of after)
      → ((k : ℕ) → k < number → IsNamed (get_or list k 0) (members_of before)) → (k : ℕ) → k < number + 1 → IsNamed (get_or list k 0) (members_of after)
  names_more list number row before after row_is grows has so_far =
      let name : ℕ = get_or list number 0 in
      let here : (q : ℕ) → members_of row q ≡ has_name index q name = λ q. ap (λ places. members_of places q) row_is ∙ member_named index name q in
      more_below (λ k. IsNamed (get_or list k 0) (members_of before)) (λ k. IsNamed (get_or list k 0) (members_of after)) number
      (λ k below named. named_still (get_or list k 0) (members_of before) (members_of after) (grows_keeps (length index.packages) before after grows) named) so_far
      (elim has [
        | inl some ↦ let found = any_member forced row some in inl (found.0, found.1, sym (here found.0) ∙ found.2)
        | inr all ↦ inr (λ q named. all q (here q ∙ named))
      ])

  pub names_all : (list : List ℕ) (number : ℕ) (within : NumberSet) → length list ≤ number → list ≡ essential_names index
      → ((k : ℕ) → k < number → IsNamed (get_or list k 0) within) → HasNames index forced within
  names_all list number within past list_is so_far name right =
      let inside : right.0 < length list = omega (arith, right.1, ap length list_is) in
      let here : get_or list right.0 0 ≡ name = ap (λ xs. get_or xs right.0 0) list_is ∙ (get_or_default (essential_names index) right.0 0 name right.1 ∙ right.2) in
      let Named : ℕ → Type 0 = λ n. IsNamed n within in
      subst Named here (so_far right.0 (omega (arith, inside)))

  -- ---- needs

  told_still : (Asked : ℕ → ℕ → Type 0) (before after : Candidates) → Gathers index forced Asked before after → (place j : ℕ) → IsTold index forced before place j → IsTold index forced after place j
  told_still Asked before after gathers place j told =
      elim told [
        | inl one ↦ inl one
        | inr all ↦ inr (
          λ q answered. grows_keeps (length index.packages) before.places after.places gathers.grows q (all.0 q answered),
          gathers.keeps (record { place = place; number = j }) all.1,
        )
      ]

  -- nothing need come where all that is asked for is answered
  pub gathers_none : (Asked : ℕ → ℕ → Type 0) (before after : Candidates) → after.places ≡ before.places → after.unmet.items ≡ before.unmet.items
      → ((place j : ℕ) → j < length (needs_at index place) → Asked place j → IsAnsweredAt place j) → Gathers index forced Asked before after
  gathers_none Asked before after same_places same_unmet answered =
      let To : List ℕ → Type 0 = λ list. Grows (length index.packages) before.places list in
      record {
        grows = subst To (sym same_places) (grows_none (length index.packages) before.places);
        keeps = λ need has. (let Has : List UnmetNeed → Type 0 = λ list. Contains list need in subst Has (sym same_unmet) has);
        needs = λ all. subst AreNeeds (sym same_unmet) all;
        told = λ place j less asked. inl (answered place j less asked);
      }

  -- what is asked for in two steps
  pub gathers_both : (First Second Asked : ℕ → ℕ → Type 0) (before between after : Candidates)
      → ((place j : ℕ) → j < length (needs_at index place) → Asked place j → First place j ⊎ Second place j)
      → Gathers index forced First before between → Gathers index forced Second between after → Gathers index forced Asked before after
  gathers_both First Second Asked before between after split first second = record {
    grows = grows_both (length index.packages) before.places between.places after.places first.grows second.grows;
    keeps = λ need has. second.keeps need (first.keeps need has);
    needs = λ all. second.needs (first.needs all);
    told = λ place j less asked.
        elim (split place j less asked) [
          | inl old ↦ told_still Second between after second place j (first.told place j less old)
          | inr new ↦ second.told place j less new
        ];
  }

  -- the same, asked for in other words
  pub gathers_as : (Asked Other : ℕ → ℕ → Type 0) (before after : Candidates) → ((place j : ℕ) → j < length (needs_at index place) → Other place j → Asked place j)
      → Gathers index forced Asked before after → Gathers index forced Other before after
  gathers_as Asked Other before after same gathers = record {
    grows = gathers.grows;
    keeps = gathers.keeps;
    needs = gathers.needs;
    told = λ place j less asked. gathers.told place j less (same place j less asked);
  }

  module _ (place number : ℕ) (row : List ℕ) (row_is : row ≡ group_satisfiers index (need_at index place number)) (before after : Candidates) where
    answered_row : (q : ℕ) → members_of row q ≡ answers index place number q
    answered_row q = ap (λ list. members_of list q) row_is ∙ member_answers index place number q

    -- a need that a forced place answers
    pub gathers_met : after.places ≡ before.places → after.unmet.items ≡ before.unmet.items → list_any forced row ≡ true → Gathers index forced (λ q j. (place ≡ q) × (number ≡ j)) before after
    gathers_met same_places same_unmet some =
        let found = any_member forced row some in
        let answered : IsAnsweredAt place number = (found.0, found.1, sym (answered_row found.0) ∙ found.2) in
        gathers_none (λ q j. (place ≡ q) × (number ≡ j)) before after same_places same_unmet
        (λ q j less same.
        (let Of : ℕ → Type 0 = λ p. IsAnsweredAt p number in
        let At : ℕ → Type 0 = λ i. IsAnsweredAt q i in
        subst At same.1 (subst Of same.0 answered)))

    abbrev it : UnmetNeed
    it = record { place = place; number = number }

    -- and one that none answers
    pub gathers_unmet : place < length index.packages → number < length (needs_at index place) → Grows (length index.packages) before.places after.places
        → IsWithin (members_of row) (members_of after.places) → after.unmet.items ≡ before.unmet.items ++ it ∷ [] → Gathers index forced (λ q j. (place ≡ q) × (number ≡ j)) before after
    gathers_unmet is_place is_need grows has pushed =
        let Has : UnmetNeed → List UnmetNeed → Type 0 = λ need list. Contains list need in
        record {
          grows = grows;
          keeps = λ need old. subst (Has need) (sym pushed) (Contains-append_left before.unmet.items (it ∷ []) need old);
          needs = λ all. subst AreNeeds (sym pushed) (All-push (λ need. IsOfIndex index (Need need.place need.number)) before.unmet.items it all (is_place, is_need));
          told = λ q j less same.
              (let Of : ℕ → Type 0 = λ p. IsTold index forced after p number in
              let At : ℕ → Type 0 = λ i. IsTold index forced after q i in
              let here : IsTold index forced after place number = inr (λ r answered. has r (answered_row r ∙ answered), subst (Has it) (sym pushed) (Contains-push before.unmet.items it)) in
              subst At same.1 (subst Of same.0 here));
        }

  -- ---- the needs of a place

  module _ (place number : ℕ) (before between after : Candidates) where
    pub gathers_more : Gathers index forced (λ q j. (place ≡ q) × (j < number)) before between → Gathers index forced (λ q j. (place ≡ q) × (number ≡ j)) between after
        → Gathers index forced (λ q j. (place ≡ q) × (j < number + 1)) before after
    gathers_more =
        gathers_both (λ q j. (place ≡ q) × (j < number)) (λ q j. (place ≡ q) × (number ≡ j)) (λ q j. (place ≡ q) × (j < number + 1)) before between after
        (λ q j less asked. elim (cases_lt j number) [
          | inl old ↦ inl (asked.0, old)
          | inr past ↦ inr (asked.0, omega (arith, asked.1))
        ])

  pub gathers_place : (place number : ℕ) (before after : Candidates) → length (needs_at index place) ≤ number → Gathers index forced (λ q j. (place ≡ q) × (j < number)) before after
      → Gathers index forced (λ q j. place ≡ q) before after
  gathers_place place number before after past =
      gathers_as (λ q j. (place ≡ q) × (j < number)) (λ q j. place ≡ q) before after
      (λ q j less same. (same, omega (arith, less, past, ap (λ p. length (needs_at index p)) same)))

  pub gathers_met_place : (place : ℕ) (here : Candidates) → HasAnswers index forced place → Gathers index forced (λ q j. place ≡ q) here here
  gathers_met_place place here met =
      gathers_none (λ q j. place ≡ q) here here refl refl
      (λ q j less same.
      (let Of : ℕ → Type 0 = λ p. HasAnswers index forced p in
      answered_by_row index forced q j (group_satisfiers index (need_at index q j)) refl (subst Of same met j less)))

  -- ---- the places of a list

  pub gathers_nothing : (list : List ℕ) (here : Candidates) → Gathers index forced (IsAmong list 0) here here
  gathers_nothing list here = gathers_none (IsAmong list 0) here here refl refl (λ place j less among. absurd (omega (arith, among.1)))

  -- the list may grow too, where only places that were there are visited
  pub gathers_next : (list list_then : List ℕ) (number place : ℕ) (before between after : Candidates) → get_or list number 0 ≡ place
      → ((k : ℕ) → k < number + 1 → get_or list_then k 0 ≡ get_or list k 0)
      → Gathers index forced (IsAmong list number) before between → Gathers index forced (λ q j. place ≡ q) between after → Gathers index forced (IsAmong list_then (number + 1)) before after
  gathers_next list list_then number place before between after here same =
      gathers_both (IsAmong list number) (λ q j. place ≡ q) (IsAmong list_then (number + 1)) before between after
      (λ q j less asked. elim (cases_lt asked.0 number) [
        | inl old ↦ inl (asked.0, old, sym (same asked.0 asked.1) ∙ asked.2)
        | inr past ↦
            let last : number ≡ asked.0 = omega (arith, asked.1) in
            inr (sym here ∙ (ap (λ k. get_or list k 0) last ∙ (sym (same asked.0 asked.1) ∙ asked.2)))
      ])

  pub gathers_list : (list : List ℕ) (number : ℕ) (before after : Candidates) → length list ≤ number → Gathers index forced (IsAmong list number) before after
      → Gathers index forced (λ q j. members_of list q ≡ true) before after
  gathers_list list number before after past =
      gathers_as (IsAmong list number) (λ q j. members_of list q ≡ true) before after
      (λ q j less is_in. (let at = members_of_at list q is_in in (at.0, omega (arith, at.1), at.2)))

-- ---- all that is in play

module _ (index : IndexView) (forced : List ℕ) (start named between last sorted : Candidates) where
  pub gathered : start.unmet.items ≡ [] → named.unmet ≡ start.unmet → AreNumbers (length index.packages) named.places → HasNames index (members_of forced) (members_of named.places)
      → Gathers index (members_of forced) (λ q j. members_of forced q ≡ true) named between → Gathers index (members_of forced) (λ q j. members_of last.places q ≡ true) between last
      → IsStrictlyIncreasing sorted.places → ((q : ℕ) → members_of sorted.places q ≡ members_of last.places q) → sorted.unmet ≡ last.unmet → IsGathered index (members_of forced) sorted
  gathered empty same_unmet are names first second rising same same_last =
      let count : ℕ = length index.packages in
      let both : Gathers index (members_of forced) (λ q j. places_in_play (members_of forced) last.places q ≡ true) named last =
      gathers_both index (members_of forced) (λ q j. members_of forced q ≡ true) (λ q j. members_of last.places q ≡ true) (λ q j. places_in_play (members_of forced) last.places q ≡ true)
      named between last (λ q j less is_in. or_cases (members_of forced q) (members_of last.places q) is_in) first second in
      let sets : members_of sorted.places ≡ members_of last.places = fun_ext same in
      let Needs : List UnmetNeed → Type 0 = λ list. All (λ need. IsOfIndex index (Need need.place need.number)) list in
      let unmet_is : sorted.unmet.items ≡ last.unmet.items = ap (λ v. v.items) same_last in
      let Names : NumberSet → Type 0 = λ set. HasNames index (members_of forced) set in
      let InPlaces : ℕ → ℕ → NumberSet → Type 0 = λ place j set. IsWithin (answers index place j) set in
      let Has : UnmetNeed → List UnmetNeed → Type 0 = λ need list. Contains list need in
      record {
        rising = rising;
        within = below_members sorted.places count (λ q is_in. (let at = members_of_at last.places q (sym (same q) ∙ is_in) in omega (arith, (both.grows.places are).within at.0 0 at.1, at.2)));
        names = subst Names (sym sets) (λ name right. named_still index (members_of forced) name (members_of named.places) (members_of last.places)
            (grows_keeps count named.places last.places both.grows) (names name right));
        needs = subst Needs (sym unmet_is) (both.needs (subst Needs (sym (ap (λ v. v.items) same_unmet ∙ empty)) (All-nil (λ need. IsOfIndex index (Need need.place need.number)))));
        told = λ place j less is_in.
            elim (both.told place j less (ap (λ b. members_of forced place || b) (sym (same place)) ∙ is_in)) [
              | inl one ↦ inl one
              | inr all ↦ inr (subst (InPlaces place j) (sym sets) all.0, subst (Has (record { place = place; number = j })) (sym unmet_is) all.1)
            ];
      }

-- so a set may be cut down to them
pub enough : (index : IndexView) (forced : NumberSet) (candidates : Candidates) → IsGathered index forced candidates → IsEnough index forced (places_in_play forced candidates.places)
enough index forced candidates gathered =
    let in_play : IsWithin (members_of candidates.places) (places_in_play forced candidates.places) = λ q is_in. or_right (forced q) (members_of candidates.places q) is_in in
    record {
      has_forced = λ q is_in. or_left (forced q) (members_of candidates.places q) is_in;
      essential = λ name right. named_still index forced name (members_of candidates.places) (places_in_play forced candidates.places) in_play (gathered.names name right);
      answered = λ member j is_in.
          elim (cases_lt j (length (needs_at index member))) [
            | inl less ↦ elim (gathered.told member j less is_in) [
              | inl one ↦ inl one
              | inr all ↦ inr (λ q answered. in_play q (all.0 q answered))
            ]
            | inr past ↦ inr (λ q answered. absurd (no_answer index member j q past answered))
          ];
    }

-- the next place of a list is in it
pub next_is_in : (places list : List ℕ) (i q : ℕ) → i < length places → list ≡ places → eqb (get_or list i 0) q ≡ true → members_of places q ≡ true
next_is_in places list i q inside same is = ap (members_of places) (sym (eqb-true (get_or list i 0) q is) ∙ ap (λ xs. get_or xs i 0) same) ∙ at_members_of places i inside

-- each of a list that is that of the essential names is one
pub essential_right : (index : IndexView) (list : List ℕ) → list ≡ essential_names index → (k : ℕ) → k < length list → Contains (essential_names index) (get_or list k 0)
essential_right index list same k inside =
    let below : k < length (essential_names index) = omega (arith, inside, ap length same) in
    (k, below, get_or_default (essential_names index) k (get_or list k 0) 0 below ∙ ap (λ xs. get_or xs k 0) (sym same))

-- where no place is forced, they are closed
pub closed_alone : (index : IndexView) (p : ℕ) (forced : List ℕ) (candidates : Candidates) → forced ≡ [] → IsGathered index (members_of forced) candidates → members_of candidates.places p ≡ true
    → IsClosed index p (members_of candidates.places)
closed_alone index p forced candidates none gathered start =
    let never : (q : ℕ) → members_of forced q ≡ true → ⊥ = λ q is_in. false≢true (sym (ap (λ list. members_of list q) none) ∙ is_in) in
    record {
      start = start;
      essential = λ number q right named. elim (gathered.names number right) [ inl one ↦ absurd (never one.0 one.1) | inr all ↦ all q named ];
      answered = λ member j q is_in answered.
          elim (cases_lt j (length (needs_at index member))) [
            | inl less ↦ elim (gathered.told member j less (or_right (members_of forced member) (members_of candidates.places member) is_in)) [
              | inl one ↦ absurd (never one.0 one.1)
              | inr all ↦ all.0 q answered
            ]
            | inr past ↦ absurd (no_answer index member j q past answered)
          ];
    }

-- what more places answer
pub marks_more : (index : IndexView) (known forced : NumberSet) (marks : List Bool) → IsWithin known forced → MarksOnly (HasAnswers index known) marks → MarksOnly (HasAnswers index forced) marks
marks_more index known forced marks within met number marked j less =
    let row : List ℕ = group_satisfiers index (need_at index number j) in
    let found = any_member known row (met number marked j less) in
    member_any forced row found.0 (within found.0 found.1) found.2
