-- How the values of a trail follow its steps.
use Rattle.std.proofs.Common.{◌≡◌, ℕ, ◌+◌, ◌<◌, ◌≤◌, Bool, false, Option, Some, None, unwrap_or, List, [], ◌∷◌, ◌++◌, reverse, length, get_or, refl, sym, ◌∙◌, ap, subst, inl, inr, arith}
use Rattle.std.proofs.lemmas.Bool.{cases_lt}
use Rattle.std.proofs.Math.Seq.{get_or-append_seam}
use Rattle.std.proofs.lemmas.List.{get_or_past, get_or_append_left, reverse-append}
use Rattle.std.proofs.lemmas.List.Sums.{sum_by-le}
use Rattle.number_sets.specs.Sets.{NumberSet}
use Rattle.sat_solve.specs.Trail.{value_in, set_of, IsLinked, count_one}
use Rattle.sat_solve.specs.declared.trail.Step.{Step}
use Rattle.sat_solve.proofs.TrailLemmas.{value_in_newest}

module _ (vars : ℕ) (values : List (Option Bool)) where
  -- a variable that has a value is in range
  pub set_in_range : (steps : List Step) (var : ℕ) (value : Bool) → IsLinked vars values steps → value_in steps var ≡ Some value → var < vars
  set_in_range steps var value linked found =
      elim (cases_lt var vars) [
        | inl below ↦ below
        | inr past ↦
            let none : get_or values var None ≡ None = get_or_past values var None (omega (arith, linked.sized)) in
            let same : get_or values var None ≡ value_in steps var = linked.same var in
            cc
      ]

  pub newest_in_range : (step : Step) (older : List Step) → IsLinked vars values (step ∷ older) → step.var < vars
  newest_in_range step older linked = set_in_range (step ∷ older) step.var step.value linked (value_in_newest step older step.var refl)

  -- there are no more steps than variables
  pub trail_fits : (steps : List Step) → IsLinked vars values steps → length steps ≤ vars
  trail_fits steps linked =
      omega (arith, sum_by-le count_one 1 values (λ k d below. at_most_one (get_or values k d)), linked.counted, linked.sized)
    where
      at_most_one : (value : Option Bool) → count_one value ≤ 1
      at_most_one None = omega arith
      at_most_one (Some value) = omega arith

-- the newest step of a trail stands last
pub reversed_last : (items rest : List Step) (step : Step) → items ≡ rest ++ step ∷ [] → reverse items ≡ step ∷ reverse rest
reversed_last items rest step e = ap reverse e ∙ reverse-append rest (step ∷ [])

-- a variable past the range is not in
pub set_of_past : (vars : ℕ) (values : List (Option Bool)) (steps : List Step) (var : ℕ) → IsLinked vars values steps → vars ≤ var → set_of steps var ≡ false
set_of_past vars values steps var linked past =
    let none : get_or values var None ≡ None = get_or_past values var None (omega (arith, linked.sized)) in
    ap (λ value. unwrap_or value false) (sym (linked.same var) ∙ none)

-- of one variable more it is put down whether it is in
pub copied_more : (members : NumberSet) (before : List Bool) (var : ℕ) → length before ≡ var → ((k : ℕ) → k < var → get_or before k false ≡ members k) → (k : ℕ) → k < var + 1 → get_or (before ++ members var ∷ []) k false ≡ members k
copied_more members before var sized so_far k below = elim (cases_lt k var) [
  | inl less ↦ get_or_append_left before (members var ∷ []) false k (omega arith) ∙ so_far k less
  | inr past ↦
      let same : length before ≡ k = omega arith in
      subst (λ n. get_or (before ++ members var ∷ []) n false ≡ members n) same (get_or-append_seam before (members var) [] false ∙ ap members (sym sized))
]
