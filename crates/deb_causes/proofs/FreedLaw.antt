-- A package that a cause frees: what its cores have that is no need that some package meets, is said by the cause.
use Rattle.std.proofs.Common.{◌≡◌, ℕ, true, false, eqb, ◌&&◌, List, [], ◌∷◌, Some, map, slice_get, sym, ap, ◌∙◌, inl, inr}
use Rattle.std.specs.List.{list_all}
use Rattle.std.specs.Option.{option_map_or}
use Rattle.std.proofs.lemmas.Bool.{cases_Bool, true≢false, and_parts, eqb-true}
use Rattle.number_sets.specs.Sets.{all_of}
use Rattle.deb_index.specs.declared.constraint.Constraint.{Constraint}
use Rattle.deb_index.specs.Constraints.{constraints_of}
use Rattle.deb_index.specs.Packages.{IndexView}
use Rattle.deb_health.specs.Causes.{cause_at, cause_in, causes_at, is_final, nothing, without}
use Rattle.deb_health.proofs.CoreLemmas.{admits_more, mended, without_fewer}
use Rattle.deb_causes.specs.Causes.{has_cause, is_broken_by, is_said, FreedAreAdmitted, said_at}

module _ (index : IndexView) (cause : List Constraint) where
  -- what a core has at a position
  said_in_core : (positions : List ℕ) (core : List Constraint) → map (slice_get (constraints_of index)) positions ≡ map Some core
      → list_all (is_said index cause) (cause_in index core) ≡ true → (k : ℕ) → cause_at index positions k ≡ true → said_at index cause k ≡ true
  said_in_core [] core stand said k here = absurd (true≢false (sym here))
  said_in_core (x ∷ xs) [] stand said k here = cc
  said_in_core (x ∷ xs) (c ∷ cs) stand said k here =
      let head : slice_get (constraints_of index) x ≡ Some c = cc in
      let tail : map (slice_get (constraints_of index)) xs ≡ map Some cs = cc in
      let at_first : eqb x k ≡ true → slice_get (constraints_of index) k ≡ Some c = λ same. sym (ap (slice_get (constraints_of index)) (eqb-true x k same)) ∙ head in
      elim (cases_Bool (is_final index c)) [
        | inl final ↦
            let both : (is_said index cause c && list_all (is_said index cause) (cause_in index cs)) ≡ true = rw final at said in
            elim (cases_Bool (eqb x k)) [
              | inl same ↦ ap (λ found. option_map_or (is_said index cause) found false) (at_first same) ∙ (and_parts (is_said index cause c) _ both).0
              | inr other ↦ said_in_core xs cs tail (and_parts (is_said index cause c) _ both).1 k (rw other at here)
            ]
        | inr met ↦
            elim (cases_Bool (eqb x k)) [
              | inl same ↦
                  let final = (and_parts _ (option_map_or (is_final index) (slice_get (constraints_of index) k) false) here).1 in
                  absurd (true≢false (sym final ∙ ap (λ found. option_map_or (is_final index) found false) (at_first same) ∙ met))
              | inr other ↦ said_in_core xs cs tail (rw met at said) k (rw other at here)
            ]
      ]

  -- what all cores have, where each has the cause
  said_in_cores : (positions : List (List ℕ)) (cores : List (List Constraint)) → map (map (slice_get (constraints_of index))) positions ≡ map (map Some) cores
      → list_all (has_cause index cause) cores ≡ true → (k : ℕ) → causes_at index positions k ≡ true → said_at index cause k ≡ true
  said_in_cores [] cores stand all k here = absurd (true≢false (sym here))
  said_in_cores (x ∷ xs) [] stand all k here = cc
  said_in_cores (x ∷ xs) (c ∷ cs) stand all k here =
      let head : map (slice_get (constraints_of index)) x ≡ map Some c = cc in
      let tail : map (map (slice_get (constraints_of index))) xs ≡ map (map Some) cs = cc in
      let both = and_parts (has_cause index cause c) _ all in
      let said = (and_parts (list_all (is_said index (cause_in index c)) cause) _ both.0).1 in
      elim (cases_Bool (cause_at index x k)) [
        | inl first ↦ said_in_core x c head said k first
        | inr later ↦ said_in_cores xs cs tail both.1 k (rw later at here)
      ]

pub freed : FreedAreAdmitted
freed index place cores cause are frees =
    let each = (and_parts (is_broken_by index cause (place, cores)) _ frees).1 in
    admits_more index place (without (said_at index cause) all_of) (without (causes_at index are.positions) all_of)
    (without_fewer (causes_at index are.positions) (said_at index cause) all_of (said_in_cores index cause are.positions cores are.stand_there each))
    (mended index place nothing are.positions are.each_first)
