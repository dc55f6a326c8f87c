-- What reasons name, and what a look at a clause says of the clause's own variables alone.
use Rattle.std.proofs.Common.{◌≡◌, ℕ, ◌+◌, ◌-◌, ◌≤◌, true, false, ◌||◌, not, cond, eqb, Some, None, unwrap_or, List, [], ◌∷◌, take, drop, slice_range, refl, sym, ◌∙◌, ap, subst, inl, inr, arith}
use Rattle.std.proofs.lemmas.Bool.{cases_Bool, eq-eqb, or_left, or_right, false≢true}
use Rattle.std.proofs.lemmas.List.{take-take, drop-take}
use Rattle.number_sets.specs.Sets.{NumberSet}
use Rattle.sat_solve.specs.Clauses.{clause_holds, literal_holds}
use Rattle.sat_solve.specs.Trail.{value_in, Agrees, ComesDownTo}
use Rattle.sat_solve.specs.Reasons.{variables_of, named_by, AgreesOn, RestsOn, FailsOn, AreReasoned, AreParts, IsPart, end_before}
use Rattle.sat_solve.specs.declared.clause.Lit.{Lit}
use Rattle.sat_solve.specs.declared.trail.Step.{Step}
use Rattle.sat_solve.specs.declared.trail.Reason.{Reason}
use Rattle.sat_solve.specs.declared.trail.Reason.TheVariants.{Learnt}
use Rattle.sat_solve.specs.declared.clause.Problem.{Problem}
use Rattle.sat_solve.proofs.ClauseLemmas.{literal_sign}

-- a clause depends on its variables alone
pub clause_same : (a b : NumberSet) (literals : List Lit) → ((var : ℕ) → variables_of literals var ≡ true → a var ≡ b var) → clause_holds a literals ≡ clause_holds b literals
clause_same a b [] same = refl
clause_same a b (literal ∷ rest) same =
    let here : a literal.var ≡ b literal.var = same literal.var (or_left (eqb literal.var literal.var) (variables_of rest literal.var) (eq-eqb literal.var literal.var refl)) in
    let there : clause_holds a rest ≡ clause_holds b rest = clause_same a b rest (λ var named. same var (or_right (eqb literal.var var) (variables_of rest var) named)) in
    ap (λ v. cond literal.positive v (not v) || clause_holds a rest) here ∙ ap (λ v. literal_holds b literal || v) there

-- the set, but for the values that the trail gives to other variables than these
abbrev mixed : List Step → NumberSet → NumberSet → NumberSet
mixed steps marked set var = cond (marked var) (set var) (unwrap_or (value_in steps var) (set var))

mixed_marked : (steps : List Step) (marked set : NumberSet) (var : ℕ) → marked var ≡ true → mixed steps marked set var ≡ set var
mixed_marked steps marked set var is = ap (λ b. cond b (set var) (unwrap_or (value_in steps var) (set var))) is

mixed_free : (steps : List Step) (marked set : NumberSet) (var : ℕ) → value_in steps var ≡ None → mixed steps marked set var ≡ set var
mixed_free steps marked set var free = elim (cases_Bool (marked var)) [
  | inl is ↦ mixed_marked steps marked set var is
  | inr other ↦ ap (λ b. cond b (set var) (unwrap_or (value_in steps var) (set var))) other ∙ ap (λ v. unwrap_or v (set var)) free
]

mixed_agrees : (steps : List Step) (marked set : NumberSet) → AgreesOn steps marked set → Agrees steps (mixed steps marked set)
mixed_agrees steps marked set agrees var value found = elim (cases_Bool (marked var)) [
  | inl is ↦ mixed_marked steps marked set var is ∙ agrees var value is found
  | inr other ↦ ap (λ b. cond b (set var) (unwrap_or (value_in steps var) (set var))) other ∙ ap (λ v. unwrap_or v (set var)) found
]

module _ (vars : ℕ) (steps : List Step) (clause : List Lit) (set : NumberSet) (agrees : AgreesOn steps (variables_of clause) set) where
  same_clause : clause_holds (mixed steps (variables_of clause) set) clause ≡ clause_holds set clause
  same_clause = clause_same (mixed steps (variables_of clause) set) set clause (mixed_marked steps (variables_of clause) set)

  -- what a clause comes down to, it comes down to by its own variables
  pub one_locally : (literal : Lit) → ComesDownTo vars steps clause (Some literal) → clause_holds set clause ≡ literal_holds set literal
  one_locally literal down =
      let at : mixed steps (variables_of clause) set literal.var ≡ set literal.var = mixed_free steps (variables_of clause) set literal.var down.1 in
      sym same_clause ∙ (down.2 (mixed steps (variables_of clause) set) (mixed_agrees steps (variables_of clause) set agrees) ∙ ap (λ v. cond literal.positive v (not v)) at)

  pub none_locally : ComesDownTo vars steps clause None → clause_holds set clause ≡ false
  none_locally down = sym same_clause ∙ down (mixed steps (variables_of clause) set) (mixed_agrees steps (variables_of clause) set agrees)

module _ (P : NumberSet → Type 0) (vars : ℕ) (steps : List Step) (clause : List Lit) (meets : (set : NumberSet) → P set → clause_holds set clause ≡ true) where
  -- the last free literal of a clause that each set with P meets
  pub forced_rests : (reason : Reason) (literal : Lit) → ComesDownTo vars steps clause (Some literal) → RestsOn P steps (record { var = literal.var; value = literal.positive; reason = reason }) (variables_of clause)
  forced_rests reason literal down set holds agrees = literal_sign set literal (sym (one_locally vars steps clause set agrees literal down) ∙ meets set holds)

  -- a clause that each set with P meets, and that fails
  pub conflict_fails : ComesDownTo vars steps clause None → FailsOn P steps (variables_of clause)
  conflict_fails down set holds agrees = false≢true (sym (none_locally vars steps clause set agrees down) ∙ meets set holds)

-- where two lists begin alike, a part of the beginning is the same in both
take_less : (old new : List Lit) (m n : ℕ) → m ≤ n → take n old ≡ take n new → take m old ≡ take m new
take_less old new m n less same = sym (take-take m n old less) ∙ (ap (take m) same ∙ take-take m n new less)

slice_front : (numbers : List Lit) (start stop : ℕ) → start ≤ stop → slice_range numbers start stop ≡ drop start (take stop numbers)
slice_front numbers start stop ordered =
    let e : start + (stop - start) ≡ stop = omega arith in
    sym (drop-take start (stop - start) numbers) ∙ ap (λ n. drop start (take n numbers)) e

pub slice_same : (old new : List Lit) (start stop end : ℕ) → start ≤ stop → stop ≤ end → take end old ≡ take end new → slice_range old start stop ≡ slice_range new start stop
slice_same old new start stop end ordered inside same =
    slice_front old start stop ordered ∙ (ap (drop start) (take_less old new stop end inside same) ∙ sym (slice_front new start stop ordered))

-- what a reason names does not change with the arena past its part
pub named_same : (problem : Problem) (old new : List Lit) (reason : Reason) (end : ℕ) → IsPart reason end → take end old ≡ take end new → named_by problem old reason ≡ named_by problem new reason
named_same problem old new (Learnt start stop) end part same = ap variables_of (slice_same old new start stop end part.0 part.1 same)
named_same problem old new _ end part same = refl

pub end_before_within : (reason : Reason) (end : ℕ) → IsPart reason end → end_before reason end ≤ end
end_before_within (Learnt start stop) end part = omega (arith, part.0, part.1)
end_before_within _ end part = omega arith

pub reasoned_same : (P : Reason → NumberSet → Type 0) (problem : Problem) (old new : List Lit) (steps : List Step) (end : ℕ) → AreParts steps end → take end old ≡ take end new → AreReasoned P (named_by problem old) steps → AreReasoned P (named_by problem new) steps
reasoned_same P problem old new [] end parts same reasoned = tt
reasoned_same P problem old new (step ∷ older) end parts same reasoned = (
  λ forced. subst (RestsOn (P step.reason) older step) (named_same problem old new step.reason end parts.0 same) (reasoned.0 forced),
  reasoned_same P problem old new older (end_before step.reason end) parts.1 (take_less old new (end_before step.reason end) end (end_before_within step.reason end parts.0) same) reasoned.1,
)

-- a part of the arena lies below a later end too
pub part_more : (reason : Reason) (end more : ℕ) → end ≤ more → IsPart reason end → IsPart reason more
part_more (Learnt start stop) end more less part = (part.0, omega (arith, part.1))
part_more _ end more less part = tt

pub parts_more : (steps : List Step) (end more : ℕ) → end ≤ more → AreParts steps end → AreParts steps more
parts_more [] end more less parts = tt
parts_more (step ∷ older) end more less parts = (part_more step.reason end more less parts.0, parts_more older (end_before step.reason end) (end_before step.reason more) (ends_more step.reason) parts.1)
  where
    ends_more : (reason : Reason) → end_before reason end ≤ end_before reason more
    ends_more (Learnt start stop) = omega arith
    ends_more _ = less

-- where no set agrees with all of a trail
pub refuted_fails : (P : NumberSet → Type 0) (steps : List Step) → ((set : NumberSet) → P set → Agrees steps set → ⊥) → FailsOn P steps (λ _. true)
refuted_fails P steps refutes set holds agrees = refutes set holds (λ var value found. agrees var value refl found)

-- what a step rests on, it rests on too where fewer sets back its reason
pub reasoned_more : (P Q : Reason → NumberSet → Type 0) (named : Reason → NumberSet) (steps : List Step) → ((reason : Reason) (set : NumberSet) → Q reason set → P reason set) → AreReasoned P named steps → AreReasoned Q named steps
reasoned_more P Q named [] fewer reasoned = tt
reasoned_more P Q named (step ∷ older) fewer reasoned = (
  λ forced set holds agrees. reasoned.0 forced set (fewer step.reason set holds) agrees,
  reasoned_more P Q named older fewer reasoned.1,
)
