-- How a sound trail takes a step more, and when it shows that no set agrees with it.
use Rattle.std.proofs.Common.{◌≡◌, ◌≢◌, ℕ, ◌<◌, Bool, true, false, Option, Some, None, unwrap_or, List, ◌∷◌, refl, sym, ◌∙◌, inl, inr, arith}
use mathlib.Core.Path.{fun_ext}
use Rattle.std.proofs.lemmas.Bool.{false≢true, cases_lt, false_from_ne_true}
use Rattle.number_sets.specs.Sets.{NumberSet}
use Rattle.sat_solve.specs.Clauses.{clause_holds}
use Rattle.sat_solve.specs.Trail.{value_in, set_of, is_decision, IsSound, IsLinked, Agrees, ComesDownTo}
use Rattle.sat_solve.specs.declared.clause.Lit.{Lit}
use Rattle.sat_solve.specs.declared.trail.Step.{Step}
use Rattle.sat_solve.specs.declared.trail.Reason.{Reason}
use Rattle.sat_solve.specs.declared.trail.Reason.TheVariants.{Decision}
use Rattle.sat_solve.proofs.TrailLemmas.{sound_agrees}
use Rattle.sat_solve.proofs.ValueLemmas.{set_of_past}
use Rattle.sat_solve.proofs.ClauseLemmas.{literal_sign}

module _ (P : NumberSet → Type 0) (steps : List Step) (sound : IsSound P steps) where
  -- the last free literal of a clause that each set with P meets
  pub forced_sound : (vars : ℕ) (reason : Reason) (clause : List Lit) (literal : Lit) → is_decision reason ≡ false → ((set : NumberSet) → P set → clause_holds set clause ≡ true) → ComesDownTo vars steps clause (Some literal) → IsSound P (record { var = literal.var; value = literal.positive; reason = reason } ∷ steps)
  forced_sound vars reason clause literal implied meets down = (
    record {
      out = λ decided. absurd (false≢true (sym implied ∙ decided));
      least = λ decided. absurd (false≢true (sym implied ∙ decided));
      forced = λ _ set holds lacks. literal_sign set literal (sym (down.2 set (sound_agrees P steps set sound holds lacks)) ∙ meets set holds);
    },
    sound,
  )

  -- a decision puts the least free variable out
  pub decided_sound : (var : ℕ) → ((lower : ℕ) → lower < var → value_in steps lower ≢ None) → IsSound P (record { var = var; value = false; reason = Decision } ∷ steps)
  decided_sound var least = (
    record {
      out = λ _. refl;
      least = λ _. least;
      forced = λ forced. absurd (false≢true (sym forced));
    },
    sound,
  )

of_value : (set : NumberSet) (var : ℕ) (value : Option Bool) → value ≢ None → ((b : Bool) → value ≡ Some b → set var ≡ b) → set var ≡ unwrap_or value false
of_value set var None some agrees = absurd (some refl)
of_value set var (Some value) some agrees = agrees value refl

-- where all variables are set, a set of variables that agrees with the trail is the trail's
pub only_set : (vars : ℕ) (values : List (Option Bool)) (steps : List Step) (set : NumberSet) → IsLinked vars values steps → ((var : ℕ) → var < vars → value_in steps var ≢ None) → ((var : ℕ) → set var ≡ true → var < vars) → Agrees steps set → set ≡ set_of steps
only_set vars values steps set linked full within agrees =
    fun_ext (λ var. elim (cases_lt var vars) [
      | inl below ↦ of_value set var (value_in steps var) (full var below) (agrees var)
      | inr past ↦
          let lacks : set var ≡ false = false_from_ne_true (set var) (λ has. let inside : var < vars = within var has in absurd (omega arith)) in
          lacks ∙ sym (set_of_past vars values steps var linked past)
    ])
