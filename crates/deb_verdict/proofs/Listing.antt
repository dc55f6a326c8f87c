-- Positions of constraints, listed one after another.
use Rattle.std.proofs.Common.{◌≡◌, ◌⊎◌, ℕ, ◌+◌, ◌<◌, ◌≤◌, true, List, [], ◌∷◌, ◌++◌, take, length, get_or, Option, Some, None, slice_get, Contains, refl, sym, subst, ◌∙◌, ap, inl, inr, arith}
use Rattle.std.proofs.lemmas.Bool.{cases_lt, false≢true}
use Rattle.std.proofs.lemmas.Option.{slice_get-get_or, slice_get_within, same_Some}
use Rattle.deb_index.specs.declared.constraint.Constraint.{Constraint}
use Rattle.deb_index.specs.declared.constraint.Constraint.TheVariants.{Essential, Need, Apart, Only}
use Rattle.deb_index.specs.Packages.{IndexView, names, name_at, package_at, places_of, essential_names, needs_at, aparts_at}
use Rattle.deb_index.specs.Constraints.{constraints_of, IsOfIndex, has_name}
use Rattle.deb_index.proofs.ConstraintLemmas.{constraints-within}
use Rattle.deb_index.proofs.PositionLemmas.{one_position, essential_position}
use Rattle.number_sets.specs.Sets.{members_of, IsWithin}
use Rattle.number_sets.proofs.MembersLemmas.{pushed_has, pushed_keeps}
use Rattle.deb_encode.proofs.AddLemmas.{in_push, taken_either}
use Rattle.deb_verdict.specs.Closure.{kept, is_kept, is_kept_there}
use Rattle.deb_verdict.specs.Formulas.{Lists}
use Rattle.deb_groundwork.proofs.Healthy.{name_is}
use Rattle.deb_index.proofs.IndexFacts.{All-at, IsRight, all_right, member_named}
use Rattle.number_sets.proofs.ListMembers.{any_member}
use Rattle.deb_groundwork.proofs.Names.{one_number}

-- what constraints ask for: an essential name; a need, or a conflict, of the package at a place
abbrev pub IsAnEssential : Constraint → Type 0
IsAnEssential constraint = (n : ℕ) × (constraint ≡ Essential n)

abbrev pub IsNeedOf : ℕ → Constraint → Type 0
IsNeedOf p constraint = (j : ℕ) × (constraint ≡ Need p j)

abbrev pub IsApartOf : ℕ → Constraint → Type 0
IsApartOf p constraint = (j : ℕ) × (constraint ≡ Apart p j)

-- the constraints that are told by numbers below a count
abbrev pub IsBelow : (ℕ → Constraint) → ℕ → Constraint → Type 0
IsBelow asked count constraint = (j : ℕ) × (j < count) × (constraint ≡ asked j)

-- what is asked for at a place: what its package asks for, and that it is the one of its name
abbrev pub IsOnlyOf : IndexView → ℕ → Constraint → Type 0
IsOnlyOf index p constraint = (n : ℕ) × (constraint ≡ Only n) × (has_name index p n ≡ true)

abbrev pub IsAskedAt : IndexView → ℕ → Constraint → Type 0
IsAskedAt index p constraint = IsNeedOf p constraint ⊎ (IsApartOf p constraint ⊎ IsOnlyOf index p constraint)

-- and what is asked for at one of these places, or of all essential names
abbrev pub IsAskedIn : IndexView → List ℕ → Constraint → Type 0
IsAskedIn index places constraint = IsAnEssential constraint ⊎ ((p : ℕ) × (members_of places p ≡ true) × IsAskedAt index p constraint)

-- the constraint of the essential name at a place of their list
abbrev pub essential_at : IndexView → ℕ → Constraint
essential_at index i = Essential (get_or (essential_names index) i 0)

module _ (index : IndexView) where
  abbrev Listed : (Constraint → Type 0) → List ℕ → List ℕ → Type 0
  Listed IsAsked before after = Lists index IsAsked before after

  -- the same of fewer constraints
  pub lists_as : (P Q : Constraint → Type 0) → ((c : Constraint) → IsOfIndex index c → IsRight index c → Q c → P c) → (before after : List ℕ) → Listed P before after → Listed Q before after
  lists_as P Q weaker before after lists = record {
    has_old = lists.has_old;
    only = lists.only;
    all = λ k c there is_q.
        lists.all k c there
        (weaker c (All-at (IsOfIndex index) (constraints_of index) k c (constraints-within index) there) (All-at (IsRight index) (constraints_of index) k c (all_right index) there) is_q);
  }

  pub lists_none : (P : Constraint → Type 0) → ((c : Constraint) → P c → ⊥) → (before : List ℕ) → Listed P before before
  lists_none P none before = record {
    has_old = λ k is_in. is_in;
    only = λ k is_in. inl is_in;
    all = λ k c there is_p. absurd (none c is_p);
  }

  pub lists_both : (P Q : Constraint → Type 0) (before between after : List ℕ) → Listed P before between → Listed Q between after → Listed (λ c. P c ⊎ Q c) before after
  lists_both P Q before between after first second = record {
    has_old = λ k is_in. second.has_old k (first.has_old k is_in);
    only = λ k is_in.
        elim (second.only k is_in) [
          | inl old ↦ first.only k old
          | inr new ↦ inr new
        ];
    all = λ k c there either.
        elim either [
          | inl is_p ↦ second.has_old k (first.all k c there is_p)
          | inr is_q ↦ second.all k c there is_q
        ];
  }

  module _ (position : ℕ) (constraint : Constraint) (stands : slice_get (constraints_of index) position ≡ Some constraint) (before : List ℕ) where
    pushed_only : (k : ℕ) → members_of (before ++ position ∷ []) k ≡ true → (members_of before k ≡ true) ⊎ (k < length (constraints_of index))
    pushed_only k is_in =
        elim (in_push before position k is_in) [
          | inl old ↦ inl old
          | inr here ↦ inr (omega (arith, here, slice_get_within (constraints_of index) position constraint stands))
        ]

    is_it : (k : ℕ) (c : Constraint) → slice_get (constraints_of index) k ≡ Some c → c ≡ constraint → k ≡ position
    is_it k c there same = one_position index k position constraint (there ∙ ap Some same) stands

    -- one position
    pub lists_one : (after : List ℕ) → after ≡ before ++ position ∷ [] → Listed (λ c. c ≡ constraint) before after
    lists_one after pushed = subst (Listed (λ c. c ≡ constraint) before) (sym pushed) (record {
      has_old = λ k is_in. pushed_keeps before position k is_in;
      only = pushed_only;
      all = λ k c there same. ap (members_of (before ++ position ∷ [])) (is_it k c there same) ∙ pushed_has before position;
    })

  -- the constraint with the next number
  pub lists_next : (asked : ℕ → Constraint) (count position : ℕ) → slice_get (constraints_of index) position ≡ Some (asked count) → (before between after : List ℕ)
      → Listed (IsBelow asked count) before between → after ≡ between ++ position ∷ [] → Listed (IsBelow asked (count + 1)) before after
  lists_next asked count position stands before between after so_far pushed =
      lists_as (λ c. IsBelow asked count c ⊎ (c ≡ asked count)) (IsBelow asked (count + 1))
      (λ c of_index right below.
      elim (cases_lt below.0 count) [
        | inl less ↦ inl (below.0, less, below.2)
        | inr past ↦ let same : below.0 ≡ count = omega (arith, below.1) in inr (below.2 ∙ ap asked same)
      ])
      before after
      (lists_both (IsBelow asked count) (λ c. c ≡ asked count) before between after so_far (lists_one position (asked count) stands between after pushed))

  pub lists_start : (asked : ℕ → Constraint) (before : List ℕ) → Listed (IsBelow asked 0) before before
  lists_start asked before = lists_none (IsBelow asked 0) (λ c below. omega (arith, below.1)) before

  -- all constraints of one kind
  pub lists_needs : (p count : ℕ) (before after : List ℕ) → count ≡ length (needs_at index p) → Listed (IsBelow (λ j. Need p j) count) before after → Listed (IsNeedOf p) before after
  lists_needs p count before after whole =
      lists_as (IsBelow (λ j. Need p j) count) (IsNeedOf p)
      (λ c of_index right need. (let inside : IsOfIndex index (Need p need.0) = subst (IsOfIndex index) need.1 of_index in (need.0, omega (arith, inside.1), need.1)))
      before after

  pub lists_aparts : (p count : ℕ) (before after : List ℕ) → count ≡ length (aparts_at index p) → Listed (IsBelow (λ j. Apart p j) count) before after → Listed (IsApartOf p) before after
  lists_aparts p count before after whole =
      lists_as (IsBelow (λ j. Apart p j) count) (IsApartOf p)
      (λ c of_index right apart. (let inside : IsOfIndex index (Apart p apart.0) = subst (IsOfIndex index) apart.1 of_index in (apart.0, omega (arith, inside.1), apart.1)))
      before after

  pub essential_stands : (i : ℕ) → i < length (essential_names index) → slice_get (constraints_of index) i ≡ Some (essential_at index i)
  essential_stands i inside = essential_position index i (get_or (essential_names index) i 0) (slice_get-get_or (essential_names index) i 0 inside)

  pub lists_essential : (count : ℕ) (before after : List ℕ) → length (essential_names index) ≤ count → Listed (IsBelow (essential_at index) count) before after → Listed IsAnEssential before after
  lists_essential count before after whole =
      lists_as (IsBelow (essential_at index) count) IsAnEssential
      (λ c of_index right essential.
      (let there : Contains (essential_names index) essential.0 = subst (IsRight index) essential.1 right in
      let inside : there.0 < length (essential_names index) = there.1 in
      let named : get_or (essential_names index) there.0 0 ≡ essential.0 = at_default (essential_names index) there.0 essential.0 inside there.2 in
      (there.0, omega arith, essential.1 ∙ ap (λ n. Essential n) (sym named))))
      before after
    where
      at_default : (xs : List ℕ) (k x : ℕ) → k < length xs → get_or xs k x ≡ x → get_or xs k 0 ≡ x
      at_default xs k x inside there = same_Some (get_or xs k 0) x (sym (slice_get-get_or xs k 0 inside) ∙ (slice_get-get_or xs k x inside ∙ ap Some there))

  -- the constraint that the package at a place is the one of its name
  pub lists_only : (p number position : ℕ) → number < length (names index) → name_at index number ≡ (package_at index p).name
      → slice_get (constraints_of index) position ≡ Some (Only number) → (before after : List ℕ) → after ≡ before ++ position ∷ [] → Listed (IsOnlyOf index p) before after
  lists_only p number position of_index named stands before after pushed =
      lists_as (λ c. c ≡ Only number) (IsOnlyOf index p)
      (λ c within right only.
      (let less : only.0 < length (names index) = subst (IsOfIndex index) only.1 within in
      only.1 ∙ ap (λ n. Only n) (one_number index only.0 number less of_index (name_is index p only.0 only.2 ∙ sym named))))
      before after (lists_one position (Only number) stands before after pushed)

  -- one place more
  pub lists_place : (places : List ℕ) (i : ℕ) → i < length places → (before a b c d : List ℕ) → Listed (IsAskedIn index (take i places)) before a → Listed (IsNeedOf (get_or places i 0)) a b
      → Listed (IsApartOf (get_or places i 0)) b c → Listed (IsOnlyOf index (get_or places i 0)) c d → Listed (IsAskedIn index (take (i + 1) places)) before d
  lists_place places i inside before a b c d so_far needs aparts only =
      let p : ℕ = get_or places i 0 in
      lists_as (λ x. IsAskedIn index (take i places) x ⊎ IsAskedAt index p x) (IsAskedIn index (take (i + 1) places))
      (λ x of_index right asked.
      elim asked [
        | inl essential ↦ inl (inl essential)
        | inr at ↦ elim (taken_either places i inside at.0 at.1) [
          | inl old ↦ inl (inr (at.0, old, at.2))
          | inr here ↦ let At : ℕ → Type 0 = λ q. IsAskedAt index q x in inr (subst At (sym here) at.2)
        ]
      ])
      before d
      (lists_both (IsAskedIn index (take i places)) (IsAskedAt index p) before a d so_far
      (lists_both (IsNeedOf p) (λ x. IsApartOf p x ⊎ IsOnlyOf index p x) a b d needs (lists_both (IsApartOf p) (IsOnlyOf index p) b c d aparts only)))

  pub lists_first : (places before after : List ℕ) → Listed IsAnEssential before after → Listed (IsAskedIn index (take 0 places)) before after
  lists_first places before after =
      lists_as IsAnEssential (IsAskedIn index (take 0 places))
      (λ c of_index right asked.
      elim asked [
        | inl essential ↦ essential
        | inr at ↦ absurd (false≢true at.1)
      ])
      before after

  -- a constraint that speaks of members is asked for in them
  asked_of_kept : (places : List ℕ) (constraint : Constraint) → is_kept index (members_of places) constraint ≡ true → IsAskedIn index places constraint
  asked_of_kept places (Essential n) is_one = inl (n, refl)
  asked_of_kept places (Need p j) is_one = inr (p, is_one, inl (j, refl))
  asked_of_kept places (Apart p j) is_one = inr (p, is_one, inr (inl (j, refl)))
  asked_of_kept places (Only n) is_one =
      let at = any_member (members_of places) (places_of index (name_at index n)) is_one in
      inr (at.0, at.1, inr (inr (n, refl, sym (member_named index n at.0) ∙ at.2)))

  pub listed_all : (places positions : List ℕ) → Listed (IsAskedIn index places) [] positions → IsWithin (kept index (members_of places)) (members_of positions)
  listed_all places positions lists k is_one = by (slice_get (constraints_of index) k) refl is_one
    where
      by : (found : Option Constraint) → slice_get (constraints_of index) k ≡ found → is_kept_there index (members_of places) found ≡ true → members_of positions k ≡ true
      by (Some c) there is_one = lists.all k c there (asked_of_kept places c is_one)
      by None there is_one = absurd (false≢true is_one)

  pub listed_below : (IsAsked : Constraint → Type 0) (positions : List ℕ) → Listed IsAsked [] positions → (k : ℕ) → members_of positions k ≡ true → k < length (constraints_of index)
  listed_below IsAsked positions lists k is_in =
      elim (lists.only k is_in) [
        | inl never ↦ absurd (false≢true never)
        | inr there ↦ there
      ]
