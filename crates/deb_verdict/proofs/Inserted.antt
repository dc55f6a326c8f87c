-- Places that come to a list one by one.
use Rattle.std.proofs.Common.{◌≡◌, ℕ, ◌+◌, ◌<◌, ◌≤◌, true, ◌||◌, eqb, List, All, [], ◌∷◌, ◌++◌, length, get_or, sym, ◌∙◌, ap, inl, inr, ◌⊎◌, arith}
use Rattle.std.proofs.lemmas.Bool.{cases_lt, or_cases, or_left, or_right, eqb-true, eq-eqb}
use Rattle.number_sets.specs.Sets.{members_of, positions_of}
use Rattle.deb_encode.specs.Play.{placed}
use Rattle.number_sets.proofs.ListLemmas.{or_false}
use Rattle.number_sets.proofs.MembersLemmas.{members_of_push}
use Rattle.number_sets.proofs.ListMembers.{members_of_at, at_members_of, same_test, below_members}
use Rattle.number_sets.proofs.PositionsOf.{position_in, group_at}

-- a place that is put in is there, and so is what was there before
with_place_is : (places : List ℕ) (place q : ℕ) → members_of (places ++ place ∷ []) q ≡ (members_of places q || eqb place q)
with_place_is places place q = members_of_push places place q ∙ ap (λ b. members_of places q || b) (or_false (eqb place q))

-- the candidates with the first of these numbers went in
pub record Inserted (old candidates vars : List ℕ) (count : ℕ) (new : List ℕ) : Type 0 where
  pub keeps : (q : ℕ) → members_of old q ≡ true → members_of new q ≡ true
  pub has : (j : ℕ) → j < count → members_of new (get_or candidates (get_or vars j 0) 0) ≡ true
  pub only : (q : ℕ) → members_of new q ≡ true
      → (members_of old q ≡ true) ⊎ ((j : ℕ) × (j < count) × (j < length vars) × (get_or candidates (get_or vars j 0) 0 ≡ q))

module _ (old candidates vars : List ℕ) where
  pub inserted_none : Inserted old candidates vars 0 old
  inserted_none = record { keeps = λ q is_in. is_in; has = λ j below. absurd (omega (arith, below)); only = λ q is_in. inl is_in }

  pub inserted_more : (count : ℕ) (new : List ℕ) → count < length vars → Inserted old candidates vars count new
      → Inserted old candidates vars (count + 1) (new ++ get_or candidates (get_or vars count 0) 0 ∷ [])
  inserted_more count new inside before =
      let place : ℕ = get_or candidates (get_or vars count 0) 0 in
      record {
        keeps = λ q is_in. with_place_is new place q ∙ or_left (members_of new q) (eqb place q) (before.keeps q is_in);
        has = λ j less.
            let that : ℕ = get_or candidates (get_or vars j 0) 0 in
            with_place_is new place that
            ∙ elim (cases_lt j count) [
              | inl under ↦ or_left (members_of new that) (eqb place that) (before.has j under)
              | inr at ↦
                  let same : count ≡ j = omega arith in
                  or_right (members_of new that) (eqb place that) (eq-eqb place that (ap (λ k. get_or candidates (get_or vars k 0) 0) same))
            ];
        only = λ q is_in.
            elim (or_cases (members_of new q) (eqb place q) (sym (with_place_is new place q) ∙ is_in)) [
              | inl known ↦ elim (before.only q known) [
                | inl first ↦ inl first
                | inr at ↦ inr (at.0, omega (arith, at.1), at.2, at.3)
              ]
              | inr it ↦ inr (count, omega arith, inside, eqb-true place q it)
            ];
      }

  -- all of them went in
  pub inserted_all : (count : ℕ) (new : List ℕ) → length vars ≤ count → All (λ var. var < length candidates) vars → Inserted old candidates vars count new
      → (q : ℕ) → members_of new q ≡ placed old candidates (members_of vars) q
  inserted_all count new whole below done q =
      same_test (members_of new q) (placed old candidates (members_of vars) q)
      (λ is_in. elim (done.only q is_in) [
        | inl first ↦ or_left (members_of old q) (positions_of candidates (members_of vars) q) first
        | inr at ↦
            or_right (members_of old q) (positions_of candidates (members_of vars) q)
            (ap (positions_of candidates (members_of vars)) (sym at.3)
            ∙ position_in candidates (members_of vars) (get_or vars at.0 0) (below at.0 0 at.2) (at_members_of vars at.0 at.2))
      ])
      (λ is_placed. elim (or_cases (members_of old q) (positions_of candidates (members_of vars) q) is_placed) [
        | inl first ↦ done.keeps q first
        | inr stands ↦
            let at = group_at candidates (members_of vars) q stands in
            let found = members_of_at vars at.0 at.2 in
            ap (members_of new) (sym (ap (λ var. get_or candidates var 0) found.2 ∙ at.3)) ∙ done.has found.0 (omega (arith, found.1))
      ])

-- places of the one kind and the other have the bound that both have
pub placed_below : (old candidates vars places : List ℕ) (bound : ℕ) → ((q : ℕ) → members_of places q ≡ placed old candidates (members_of vars) q)
    → All (λ q. q < bound) old → All (λ q. q < bound) candidates → All (λ q. q < bound) places
placed_below old candidates vars places bound listed old_below candidates_below =
    below_members places bound (λ q is_in.
    elim (or_cases (members_of old q) (positions_of candidates (members_of vars) q) (sym (listed q) ∙ is_in)) [
      | inl first ↦ (let at = members_of_at old q first in omega (arith, old_below at.0 0 at.1, at.2))
      | inr stands ↦ (let at = group_at candidates (members_of vars) q stands in omega (arith, candidates_below at.0 0 at.1, at.3))
    ])
