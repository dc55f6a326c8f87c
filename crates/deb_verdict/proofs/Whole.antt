-- The constraints at positions of the list, and the first positions that admit none.
use Rattle.std.proofs.Common.{◌≡◌, ℕ, ◌+◌, ◌-◌, ◌^◌, ◌<◌, ◌≤◌, true, ltb, List, [], ◌∷◌, ◌++◌, length, get_or, take, map, All, Some, slice_get, refl, sym, ◌∙◌, ap, arith}
use Rattle.std.specs.Prelude.{sum_by}
use Rattle.std.proofs.lemmas.Bool.{and_parts, and_from, ltb-true, lt-ltb}
use Rattle.std.proofs.lemmas.List.{take_more, map-append, get_or-map, length-map}
use Rattle.std.proofs.lemmas.Option.{slice_get_within}
use Rattle.deb_index.specs.declared.constraint.Constraint.{Constraint}
use Rattle.deb_index.specs.Packages.{IndexView}
use Rattle.deb_index.specs.Constraints.{constraints_of}
use Rattle.deb_index.specs.Reading.{stanza_limit}
use Rattle.deb_index.specs.Tables.{asked_count, asked_limit}
use Rattle.deb_index.proofs.ConstraintLemmas.{constraints-few}
use Rattle.number_sets.specs.Sets.{NumberSet, members_of, IsFirst, all_of, all_below}
use Rattle.number_sets.proofs.SetLemmas.{first_within}
use Rattle.deb_verdict.specs.Closure.{cut}
use Rattle.deb_health.specs.Causes.{without}
use Rattle.deb_health.specs.Health.{IsInstallation, AdmitsNone, admits_none_upward}
use Rattle.deb_health.proofs.CoreLemmas.{without_has, without_left, without_within}
use Rattle.core_extract.specs.Reduction.{listed, IsRefutation}
use Rattle.deb_health.proofs.HealthLemmas.{healthy_from_meets}
use Rattle.deb_index.proofs.IndexFacts.{All-at}

module _ (index : IndexView) (p : ℕ) where
  -- where no healthy set has p, all constraints admit none
  pub all_admit_none : ((set : NumberSet) → IsInstallation index p set → ⊥) → AdmitsNone index p all_of
  all_admit_none none admits = none admits.0 (healthy_from_meets index admits.0 all_of (λ k below. refl) admits.2, admits.1)

  -- positions behind the list keep out no set
  pub none_in_list : (positions list : NumberSet) → ((k : ℕ) → k < length (constraints_of index) → list k ≡ true) → AdmitsNone index p positions → AdmitsNone index p (cut positions list)
  none_in_list positions list whole none admits =
      none (admits.0, admits.1, λ k constraint asked there. admits.2 k constraint (and_from (positions k) (list k) asked (whole k (slice_get_within (constraints_of index) k constraint there))) there)

  -- so the first ones that admit none, where some are taken out, are positions of the list
  pub first_in_list : (out positions : NumberSet) → IsFirst (λ set. AdmitsNone index p (without out set)) positions → (k : ℕ) → positions k ≡ true → k < length (constraints_of index)
  first_in_list out positions first k is_in =
      let list : NumberSet = all_below (length (constraints_of index)) in
      let none : AdmitsNone index p (without out (cut positions list)) =
      admits_none_upward index p (cut (without out positions) list) (without out (cut positions list))
      (λ n is_left.
      let parts = and_parts (without out positions n) (list n) is_left in
      without_has out (cut positions list) n (and_from (positions n) (list n) (without_within out positions n parts.0) parts.1) (without_left out positions n parts.0))
      (none_in_list (without out positions) list (λ n below. lt-ltb n (length (constraints_of index)) below) first.0) in
      let same : positions ≡ cut positions list = first_within (λ set. AdmitsNone index p (without out set)) positions list first none in
      ltb-true k (length (constraints_of index)) ((and_parts (positions k) (list k) (sym (ap (λ (s : NumberSet). s k) same) ∙ is_in)).1)

  -- a refutation by a list is one by those of its numbers that have a next one
  pub refuted_listed : length index.packages ≤ stanza_limit → sum_by asked_count index.packages ≤ asked_limit → (part : NumberSet) (used : List ℕ)
      → IsRefutation (AdmitsNone index p) part (members_of used) → IsRefutation (AdmitsNone index p) part (listed used)
  refuted_listed few few_asked part used refuted = record {
    within = λ k is_used. refuted.within k ((and_parts (members_of used k) (ltb k (2 ^ 32 - 1)) is_used).0);
    fails = none_in_list (members_of used) (λ k. ltb k (2 ^ 32 - 1)) (λ k below. lt-ltb k (2 ^ 32 - 1) (omega (arith, constraints-few index few few_asked))) refuted.fails;
  }

  -- the same numbers in another order
  pub refuted_same : (part : NumberSet) (used sorted : List ℕ) → ((k : ℕ) → members_of sorted k ≡ members_of used k)
      → IsRefutation (AdmitsNone index p) part (members_of used) → IsRefutation (AdmitsNone index p) part (members_of sorted)
  refuted_same part used sorted same refuted = record {
    within = λ k is_used. refuted.within k (sym (same k) ∙ is_used);
    fails = admits_none_upward index p (members_of used) (members_of sorted) (λ k is_used. same k ∙ is_used) refuted.fails;
  }

  -- a refutation of what is not taken out
  pub refuted_without : (out part used : NumberSet) → IsRefutation (AdmitsNone index p) (without out part) used → IsRefutation (λ set. AdmitsNone index p (without out set)) part used
  refuted_without out part used refuted = record {
    within = λ k is_used. without_within out part k (refuted.within k is_used);
    fails = admits_none_upward index p used (without out used) (λ k is_used. without_has out used k is_used (without_left out part k (refuted.within k is_used))) refuted.fails;
  }

-- one constraint more of those at a list of numbers
pub named_more : (constraints : List Constraint) (numbers : List ℕ) (core core_then : List Constraint) (i : ℕ) (constraint : Constraint) → i < length numbers
    → slice_get constraints (get_or numbers i 0) ≡ Some constraint → core_then ≡ core ++ constraint ∷ []
    → map (slice_get constraints) (take i numbers) ≡ map Some core → map (slice_get constraints) (take (i + 1) numbers) ≡ map Some core_then
named_more constraints numbers core core_then i constraint inside there pushed so_far =
    let number : ℕ = get_or numbers i 0 in
    ap (map (slice_get constraints)) (take_more numbers i 0 inside)
    ∙ (map-append (slice_get constraints) (take i numbers) (number ∷ [])
    ∙ (ap (λ front. front ++ slice_get constraints number ∷ []) so_far
    ∙ (ap (λ last. map Some core ++ last ∷ []) there
    ∙ sym (ap (map Some) pushed ∙ map-append Some core (constraint ∷ [])))))

-- what stands at numbers of a list has what all of the list have
pub named_all : (P : Constraint → Type 0) (constraints core : List Constraint) (numbers : List ℕ) → All P constraints → map (slice_get constraints) numbers ≡ map Some core → All P core
named_all P constraints core numbers all same k d below =
    let sizes : length numbers ≡ length core = sym (length-map numbers (slice_get constraints)) ∙ (ap length same ∙ length-map core (λ (c : Constraint). Some c)) in
    let inside : k < length numbers = omega arith in
    let there : slice_get constraints (get_or numbers k 0) ≡ Some (get_or core k d) =
    sym (get_or-map (slice_get constraints) numbers k 0 (Some d) inside) ∙ (ap (λ list. get_or list k (Some d)) same ∙ get_or-map (λ (c : Constraint). Some c) core k d (Some d) below) in
    All-at P constraints (get_or numbers k 0) (get_or core k d) all there
