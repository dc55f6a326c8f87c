-- What a clause is left by, step by step of a trail from the newest: each set that agrees with the steps before, on what is seen, makes it true.
use Rattle.std.proofs.Common.{◌≡◌, ℕ, Bool, true, false, not, if◌then◌else◌, Some, List, [], ◌∷◌, ◌⊎◌, ◌++◌, refl, sym, ◌∙◌, ap, inl, inr}
use Rattle.std.proofs.lemmas.Bool.{false≢true, or_left, or_right}
use Rattle.std.proofs.lemmas.Bool.Decides.{eqb_tells}
use Rattle.std.proofs.lemmas.List.Folds.{list_any-append}
use Rattle.number_sets.specs.Sets.{NumberSet}
use Rattle.sat_solve.specs.Clauses.{clause_holds, literal_holds}
use Rattle.sat_solve.specs.Jumps.{denied}
use Rattle.sat_solve.specs.Reasons.{AgreesOn, RestsOn}
use Rattle.sat_solve.specs.declared.clause.Lit.{Lit}
use Rattle.sat_solve.specs.declared.trail.Step.{Step}
use Rattle.sat_solve.proofs.TrailLemmas.{value_in_newest, value_in_older}

-- each set with P that agrees with these steps on what is seen makes the clause true
abbrev pub Leaves : (NumberSet → Type 0) → List Step → NumberSet → List Lit → Type 0
Leaves P steps marked clause = (set : NumberSet) → P set → AgreesOn steps marked set → clause_holds set clause ≡ true

-- a literal fails by its step, and holds in a set that disagrees with the step
pub denied_by : (has value : Bool) → has ≡ value → (if not value then has else not has) ≡ false
denied_by true true same = refl
denied_by false false same = refl
denied_by true false same = absurd (false≢true (sym same))
denied_by false true same = absurd (false≢true same)

denied_or : (has value : Bool) → (has ≡ value) ⊎ ((if not value then has else not has) ≡ true)
denied_or true true = inl refl
denied_or false false = inl refl
denied_or true false = inr refl
denied_or false true = inr refl

module _ (P : NumberSet → Type 0) (step : Step) (older : List Step) where
  -- a step that is not seen is passed over
  pub walk_unmarked : (marked : NumberSet) (clause : List Lit) → marked step.var ≡ false → Leaves P (step ∷ older) marked clause → Leaves P older marked clause
  walk_unmarked marked clause unmarked leaves set holds agrees =
      leaves set holds
      (λ var value mark there. elim (eqb_tells step.var var) [
        | inl same ↦ let here : marked step.var ≡ true = ap marked same.1 ∙ mark in absurd (false≢true (sym unmarked ∙ here))
        | inr other ↦ agrees var value mark (sym (value_in_older step older var other.1) ∙ there)
      ])

  -- a seen step whose value follows from what the set has
  agrees_more : (marked set : NumberSet) → set step.var ≡ step.value → AgreesOn older marked set → AgreesOn (step ∷ older) marked set
  agrees_more marked set here agrees var value mark there =
      elim (eqb_tells step.var var) [
        | inl same ↦
            let given : Some step.value ≡ Some value = sym (value_in_newest step older var same.1) ∙ there in
            let moved : set var ≡ set step.var = ap set (sym same.1) in
            cc
        | inr other ↦ agrees var value mark (sym (value_in_older step older var other.1) ∙ there)
      ]

  -- the literal of a step is taken into the clause
  pub walk_taken : (marked : NumberSet) (clause : List Lit) → Leaves P (step ∷ older) marked clause → Leaves P older marked (clause ++ denied step ∷ [])
  walk_taken marked clause leaves set holds agrees =
      list_any-append (literal_holds set) clause (denied step ∷ [])
      ∙ elim (denied_or (set step.var) step.value) [
        | inl here ↦ or_left (clause_holds set clause) (clause_holds set (denied step ∷ [])) (leaves set holds (agrees_more marked set here agrees))
        | inr against ↦ or_right (clause_holds set clause) (clause_holds set (denied step ∷ [])) (or_left (literal_holds set (denied step)) false against)
      ]

  -- by a seen step that was forced, what it rests on is seen
  pub walk_forced : (Q B : NumberSet → Type 0) (marked more reasons : NumberSet) (clause : List Lit) → ((set : NumberSet) → Q set → P set) → ((set : NumberSet) → Q set → B set) → RestsOn B older step reasons → ((var : ℕ) → marked var ≡ true → more var ≡ true) → ((var : ℕ) → reasons var ≡ true → more var ≡ true) → Leaves P (step ∷ older) marked clause → Leaves Q older more clause
  walk_forced Q B marked more reasons clause fewer backs rests kept named leaves set holds agrees =
      let here : set step.var ≡ step.value = rests set (backs set holds) (λ var value mark there. agrees var value (named var mark) there) in
      leaves set (fewer set holds) (agrees_more marked set here (λ var value mark there. agrees var value (kept var mark) there))
