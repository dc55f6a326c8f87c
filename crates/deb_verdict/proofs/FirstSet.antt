-- The first true set of the variables stands for the first healthy set with a package.
use Rattle.std.proofs.Common.{◌≡◌, ◌↔◌, ℕ, ◌<◌, Bool, true, false, ◌&&◌, ◌||◌, cond, ltb, List, All, [], ◌∷◌, length, get_or, Some, slice_get, refl, sym, ◌∙◌, ap, subst, inl, inr, arith}
use mathlib.Core.Path.{fun_ext}
use Rattle.std.specs.List.Sorted.{IsStrictlyIncreasing}
use Rattle.std.proofs.lemmas.Bool.{cases_Bool, and_parts, and_from, or_cases, or_left, or_right, both_ways, ltb-true, lt-ltb, false_from_ne_true}
use Rattle.std.proofs.lemmas.Option.{slice_get_within, get_or_from_slice_get}
use Rattle.deb_index.specs.Packages.{IndexView}
use Rattle.number_sets.specs.Sets.{NumberSet, members_of, IsFirst, IsWithin, all_of, positions_of}
use Rattle.sat_solve.specs.Clauses.{Clause, IsTrueSet}
use Rattle.deb_health.specs.Health.{IsHealthy, IsInstallation}
use Rattle.deb_verdict.specs.Closure.{cut}
use Rattle.deb_encode.specs.Play.{places_in_play, placed, AllHold}
use Rattle.deb_health.specs.Verdicts.{IsFirstInstallation}
use Rattle.number_sets.proofs.ListMembers.{members_of_at, at_members_of, same_test, below_members}
use Rattle.deb_verdict.proofs.Cutting.{IsEnough, cut_installation}
use Rattle.number_sets.proofs.RisingLists.{rising_lt}
use Rattle.number_sets.proofs.PositionsOf.{position_in, group_at, same_position}

-- what the variables say: the known ones at places that are in anyway, a set of places at the others
abbrev pub pulled_beside : List ℕ → List ℕ → NumberSet → NumberSet → NumberSet
pulled_beside forced candidates known set var =
    ltb var (length candidates) && cond {A = Bool} (members_of forced (get_or candidates var 0)) (known var) (set (get_or candidates var 0))

module _ (forced candidates : List ℕ) (known set : NumberSet) where
  beside : (var : ℕ) → var < length candidates
      → pulled_beside forced candidates known set var ≡ cond {A = Bool} (members_of forced (get_or candidates var 0)) (known var) (set (get_or candidates var 0))
  beside var inside =
      ap (λ b. b && cond {A = Bool} (members_of forced (get_or candidates var 0)) (known var) (set (get_or candidates var 0))) (lt-ltb var (length candidates) inside)

  beside_in : (var : ℕ) → var < length candidates → members_of forced (get_or candidates var 0) ≡ true → pulled_beside forced candidates known set var ≡ known var
  beside_in var inside is_in = beside var inside ∙ ap (λ b. cond {A = Bool} b (known var) (set (get_or candidates var 0))) is_in

  beside_out : (var : ℕ) → var < length candidates → members_of forced (get_or candidates var 0) ≡ false → pulled_beside forced candidates known set var ≡ set (get_or candidates var 0)
  beside_out var inside out = beside var inside ∙ ap (λ b. cond {A = Bool} b (known var) (set (get_or candidates var 0))) out

  -- they stand for the set cut down to what is in play
  pub placed_beside : IsWithin (members_of forced) set → (q : ℕ)
      → cut set (places_in_play (members_of forced) candidates) q ≡ placed forced candidates (pulled_beside forced candidates known set) q
  placed_beside has_forced q =
      same_test (cut set (places_in_play (members_of forced) candidates) q) (placed forced candidates (pulled_beside forced candidates known set) q)
      (λ is_in.
      let parts = and_parts (set q) (places_in_play (members_of forced) candidates q) is_in in
      elim (cases_Bool (members_of forced q)) [
        | inl here ↦ or_left (members_of forced q) (positions_of candidates (pulled_beside forced candidates known set) q) here
        | inr out ↦ elim (or_cases (members_of forced q) (members_of candidates q) parts.1) [
          | inl here ↦ absurd (both_ways (members_of forced q) out here)
          | inr is_member ↦
              let at = members_of_at candidates q is_member in
              or_right (members_of forced q) (positions_of candidates (pulled_beside forced candidates known set) q)
              (ap (positions_of candidates (pulled_beside forced candidates known set)) (sym at.2)
              ∙ position_in candidates (pulled_beside forced candidates known set) at.0 at.1
              (beside_out at.0 at.1 (ap (members_of forced) at.2 ∙ out) ∙ (ap set at.2 ∙ parts.0)))
        ]
      ])
      (λ is_placed.
      elim (or_cases (members_of forced q) (positions_of candidates (pulled_beside forced candidates known set) q) is_placed) [
        | inl here ↦ and_from (set q) (places_in_play (members_of forced) candidates q) (has_forced q here) (or_left (members_of forced q) (members_of candidates q) here)
        | inr stands ↦
            let at = group_at candidates (pulled_beside forced candidates known set) q stands in
            let is_member : members_of candidates q ≡ true = ap (members_of candidates) (sym at.3) ∙ at_members_of candidates at.0 at.1 in
            and_from (set q) (places_in_play (members_of forced) candidates q)
            (elim (cases_Bool (members_of forced q)) [
              | inl here ↦ has_forced q here
              | inr out ↦ ap set (sym at.3) ∙ (sym (beside_out at.0 at.1 (ap (members_of forced) at.3 ∙ out)) ∙ at.2)
            ])
            (or_right (members_of forced q) (members_of candidates q) is_member)
      ])

-- the only group is kept
abbrev pub kept_one : List Bool
kept_one = true ∷ []

module _ (index : IndexView) (p : ℕ) (forced candidates : List ℕ) (clauses : List Clause) (must : ℕ)
    (follows : (set : NumberSet) → IsInstallation index p set → IsWithin (members_of forced) set)
    (enough : IsEnough index (members_of forced) (places_in_play (members_of forced) candidates))
    (rising : IsStrictlyIncreasing candidates) (must_is : slice_get candidates must ≡ Some p)
    (in_group : All (λ clause. clause.group ≡ 0) clauses) (describes : (vars : NumberSet) → (AllHold clauses vars ↔ IsHealthy index (placed forced candidates vars))) where
  abbrev IsTrueHere : NumberSet → Type 0
  IsTrueHere = IsTrueSet (length candidates) clauses kept_one must

  must_at : (must < length candidates) × (get_or candidates must 0 ≡ p)
  must_at = (slice_get_within candidates must p must_is, get_or_from_slice_get candidates must p 0 must_is)

  p_in_play : places_in_play (members_of forced) candidates p ≡ true
  p_in_play = or_right (members_of forced p) (members_of candidates p) (sym (ap (members_of candidates) must_at.1) ∙ at_members_of candidates must must_at.0)

  -- a healthy set with p gives a true set of variables
  beside_true : (known set : NumberSet) → known must ≡ true → IsInstallation index p set → IsTrueHere (pulled_beside forced candidates known set)
  beside_true known set has_must installed =
      let vars : NumberSet = pulled_beside forced candidates known set in
      let part = cut_installation index p (members_of forced) (places_in_play (members_of forced) candidates) enough p_in_play set (follows set installed) installed in
      let healthy : IsHealthy index (placed forced candidates vars) = subst (IsHealthy index) (fun_ext (placed_beside forced candidates known set (follows set installed))) part.0 in
      record {
        within = λ var is_in.
            ltb-true var (length candidates)
            ((and_parts (ltb var (length candidates)) (cond {A = Bool} (members_of forced (get_or candidates var 0)) (known var) (set (get_or candidates var 0))) is_in).0);
        has_must = elim (cases_Bool (members_of forced (get_or candidates must 0))) [
          | inl here ↦ beside_in forced candidates known set must must_at.0 here ∙ has_must
          | inr out ↦ beside_out forced candidates known set must must_at.0 out ∙ (ap set must_at.1 ∙ installed.1)
        ];
        meets = λ k d below is_kept. (describes vars).1 healthy k d below;
      }

  -- so where there is no true set, there is no healthy set with p
  pub none_healthy : ((vars : NumberSet) → IsTrueHere vars → ⊥) → (set : NumberSet) → IsInstallation index p set → ⊥
  none_healthy none set installed = none (pulled_beside forced candidates all_of set) (beside_true all_of set refl installed)

  true_healthy : (vars : NumberSet) → IsTrueHere vars → IsInstallation index p (placed forced candidates vars)
  true_healthy vars is_one = (
    (describes vars).0 (λ k d below. is_one.meets k d below (ap (slice_get kept_one) (in_group k d below))),
    or_right (members_of forced p) (positions_of candidates vars p)
        (sym (ap (positions_of candidates vars) must_at.1) ∙ position_in candidates vars must must_at.0 is_one.has_must),
  )

  placed_out : (vars : NumberSet) (var : ℕ) → var < length candidates → members_of forced (get_or candidates var 0) ≡ false → placed forced candidates vars (get_or candidates var 0) ≡ vars var
  placed_out vars var inside out =
      ap (λ b. b || positions_of candidates vars (get_or candidates var 0)) out ∙ same_position candidates rising vars var inside

  -- and the first true set stands for the first healthy set with p
  pub first_healthy : (vars : NumberSet) → IsFirst IsTrueHere vars → IsFirst (IsInstallation index p) (placed forced candidates vars)
  first_healthy vars first = (
    true_healthy vars first.0,
    λ set installed before.
        elim (or_cases (members_of forced before.0) (positions_of candidates vars before.0) before.3) [
          | inl is_in ↦ both_ways (set before.0) before.2 (follows set installed before.0 is_in)
          | inr stands ↦
              let at = group_at candidates vars before.0 stands in
              first.1 (pulled_beside forced candidates vars set) (beside_true vars set first.0.has_must installed) (
                at.0,
                (λ lower less.
                    let inside : lower < length candidates = omega (arith, at.1) in
                    let below : get_or candidates lower 0 < before.0 = omega (arith, rising_lt candidates rising lower at.0 less at.1, at.3) in
                    elim (cases_Bool (members_of forced (get_or candidates lower 0))) [
                      | inl here ↦ beside_in forced candidates vars set lower inside here
                      | inr out ↦
                          beside_out forced candidates vars set lower inside out
                          ∙ (before.1 (get_or candidates lower 0) below ∙ placed_out vars lower inside out)
                    ]),
                beside_out forced candidates vars set at.0 at.1 (false_from_ne_true (members_of forced (get_or candidates at.0 0)) (λ is_in.
                    both_ways (set before.0) before.2 (follows set installed before.0 (ap (members_of forced) (sym at.3) ∙ is_in))))
                    ∙ (ap set at.3 ∙ before.2),
                at.2,
              )
        ],
  )

  -- the same where the count of variables is another word for that of the candidates
  pub first_answer : (count : ℕ) → count ≡ length candidates → (vars places : List ℕ) → IsFirst (IsTrueSet count clauses kept_one must) (members_of vars)
      → IsStrictlyIncreasing places → ((q : ℕ) → members_of places q ≡ placed forced candidates (members_of vars) q) → IsFirstInstallation index p places
  first_answer count sized vars places first in_order listed =
      let Answers : ℕ → Type 0 = λ n. IsFirst (IsTrueSet n clauses kept_one must) (members_of vars) in
      (in_order, subst (IsFirst (IsInstallation index p)) (fun_ext (λ q. sym (listed q))) (first_healthy (members_of vars) (subst Answers sized first)))

  pub no_answer : (count : ℕ) → count ≡ length candidates → ((vars : NumberSet) → IsTrueSet count clauses kept_one must vars → ⊥)
      → (set : NumberSet) → IsInstallation index p set → ⊥
  no_answer count sized none =
      let Lacks : ℕ → Type 0 = λ n. (vars : NumberSet) → IsTrueSet n clauses kept_one must vars → ⊥ in
      none_healthy (subst Lacks sized none)

-- the variables of a true set number candidates
pub vars_below : (candidates : List ℕ) (clauses : List Clause) (must count : ℕ) → count ≡ length candidates → (vars : List ℕ)
    → IsFirst (IsTrueSet count clauses kept_one must) (members_of vars) → All (λ var. var < length candidates) vars
vars_below candidates clauses must count sized vars first = below_members vars (length candidates) (λ q is_in. omega (arith, first.0.within q is_in, sized))
