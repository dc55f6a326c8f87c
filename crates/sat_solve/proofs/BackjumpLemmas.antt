-- Backjumping: steps are taken back, down to a decision.
use Rattle.std.proofs.Common.{◌≡◌, ◌≢◌, ℕ, ◌+◌, ◌*◌, ◌-◌, ◌<◌, ◌≤◌, Bool, true, false, if◌then◌else◌, All, Option, List, [], ◌∷◌, get_or, reverse, length, take, sym, ◌∙◌, ap, subst, arith, length-take}
use Rattle.std.proofs.lemmas.List.{take-take, take_all, take_more, reverse-append, get_or_default}
use Rattle.std.proofs.lemmas.Bool.{false≢true}
use Rattle.number_sets.specs.Sets.{NumberSet}
use Rattle.sat_solve.specs.Clauses.{clause_holds}
use Rattle.sat_solve.specs.Trail.{value_in, is_decided, IsSound, IsLinked, weight, rank, power_of_three, steps_of, IsTrail}
use Rattle.sat_solve.specs.Reasons.{IsSolution, IsUsed, IsLearnt, Backs, named_by, AreReasoned, AreParts, end_before}
use Rattle.sat_solve.specs.Jumps.{IsAt}
use Rattle.sat_solve.specs.SolverState.{IsSolver}
use Rattle.sat_solve.specs.declared.clause.Lit.{Lit}
use Rattle.sat_solve.specs.declared.trail.Step.{Step}
use Rattle.sat_solve.specs.declared.trail.Reason.{Reason}
use Rattle.sat_solve.specs.declared.clause.Problem.{Problem}
use Rattle.sat_solve.specs.declared.solver.Solver.{Solver}
use Rattle.sat_solve.proofs.TrailLemmas.{value_in_older, power_step, power_positive, same_power, weight_at_most, times}
use Rattle.sat_solve.proofs.ValueLemmas.{trail_fits}
use Rattle.sat_solve.proofs.ReasonLemmas.{reasoned_same, end_before_within}

-- the least number above all trails that begin like this one
abbrev pub reach : ℕ → List Step → ℕ
reach vars steps = rank vars steps + power_of_three (vars - length steps)

pub reach_above : (vars : ℕ) (steps : List Step) → rank vars steps < reach vars steps
reach_above vars steps = omega (arith, power_positive (vars - length steps))

-- without its newest step a trail reaches as high
pub reach_popped : (vars : ℕ) (step : Step) (older : List Step) → length older < vars → reach vars (step ∷ older) ≤ reach vars older
reach_popped vars step older below =
    let twice : weight step * power_of_three (vars - 1 - length older) ≤ 2 * power_of_three (vars - 1 - length older) = times (weight step) 2 (power_of_three (vars - 1 - length older)) (weight_at_most step) in
    omega (arith, power_step vars (length older) below, same_power vars (length older))

-- a decision reaches as high as the rank of its turn
pub reach_decided : (vars : ℕ) (step : Step) (older : List Step) → is_decided step ≡ true → reach vars (step ∷ older) ≡ 2 * power_of_three (vars - 1 - length older) + rank vars older
reach_decided vars step older decided =
    let light : weight step ≡ 1 = ap (λ b. if b then 1 else 2) decided in
    let once : weight step * power_of_three (vars - 1 - length older) ≡ 1 * power_of_three (vars - 1 - length older) = ap (λ w. w * power_of_three (vars - 1 - length older)) light in
    omega (arith, same_power vars (length older))

pub reach_on : (vars : ℕ) (first steps : List Step) (values : List (Option Bool)) (step : Step) (older : List Step) → IsLinked vars values steps → steps ≡ step ∷ older → reach vars first ≤ reach vars steps → reach vars first ≤ reach vars older
reach_on vars first steps values step older linked popped reaches =
    let fits : length (step ∷ older) ≤ vars = trail_fits vars values (step ∷ older) (subst (IsLinked vars values) popped linked) in
    omega (arith, ap (reach vars) popped, reach_popped vars step older (omega arith))

-- the newest step is taken back, with its part of the arena
pub popped_solver : (problem : Problem) (old new : Solver) (step : Step) → steps_of old.trail ≡ step ∷ steps_of new.trail → IsTrail new.trail → new.trail.vars ≡ old.trail.vars → new.arena.items ≡ take (end_before step.reason (length old.arena.items)) old.arena.items → new.cursor ≤ old.cursor → new.cursor ≤ step.var → new.used ≡ old.used → new.learnt ≡ old.learnt → IsSolver problem old → IsSolver problem new
popped_solver problem old new step popped linked vars arena lower at used learnt is =
    let P : NumberSet → Type 0 = IsSolution problem in
    let B : Reason → NumberSet → Type 0 = Backs problem old.used.items in
    let end : ℕ = end_before step.reason (length old.arena.items) in
    let parts : AreParts (step ∷ steps_of new.trail) (length old.arena.items) = subst (λ steps. AreParts steps (length old.arena.items)) popped is.parts in
    let sound : IsSound P (step ∷ steps_of new.trail) = subst (IsSound P) popped is.sound in
    let reasoned : AreReasoned B (named_by problem old.arena.items) (step ∷ steps_of new.trail) = subst (AreReasoned B (named_by problem old.arena.items)) popped is.reasoned in
    let within : end_before step.reason (length old.arena.items) ≤ length old.arena.items = end_before_within step.reason (length old.arena.items) parts.0 in
    let sized : end_before step.reason (length old.arena.items) ≡ length new.arena.items = omega (arith, ap length arena, length-take (end_before step.reason (length old.arena.items)) old.arena.items) in
    let same : take (end_before step.reason (length old.arena.items)) old.arena.items ≡ take (end_before step.reason (length old.arena.items)) new.arena.items =
    sym (ap (take (end_before step.reason (length old.arena.items))) arena ∙ take-take (end_before step.reason (length old.arena.items)) (end_before step.reason (length old.arena.items)) old.arena.items (omega arith)) in
    record {
      linked = linked;
      vars = vars ∙ is.vars;
      sound = sound.1;
      reasoned = subst (λ marks. AreReasoned (Backs problem marks.items) (named_by problem new.arena.items) (steps_of new.trail)) (sym used)
          (reasoned_same B problem old.arena.items new.arena.items (steps_of new.trail) (end_before step.reason (length old.arena.items)) parts.1 same reasoned.1);
      parts = subst (AreParts (steps_of new.trail)) sized parts.1;
      below = λ var less free.
          let other : step.var ≢ var = λ (e : step.var ≡ var). omega arith in
          let before : var < old.cursor = omega arith in
          is.below var before (ap (λ steps. value_in steps var) popped ∙ (value_in_older step (steps_of new.trail) var other ∙ free));
      used = subst (λ marks. IsUsed problem marks.items) (sym used) is.used;
      learnt = subst (λ marks. All (IsLearnt problem marks.items) new.learnt.items) (sym used) (subst (λ clauses. All (IsLearnt problem old.used.items) clauses.items) (sym learnt) is.learnt);
    }

-- without the steps behind a place of it, a trail is shorter
abbrev pub cut_to : ℕ → List Step → List Step
cut_to count trail = reverse (take count trail)

-- steps were taken back from a trail down to some place of it. If that is the place of the decision, the trail can stand higher than before
pub record UndoneTo (vars place : ℕ) (trail steps : List Step) (count : ℕ) : Type 0 where
  pub cut : steps ≡ cut_to count trail
  pub inside : count ≤ length trail
  pub reaches : reach vars (reverse trail) ≤ reach vars steps
  pub lower : (decision : Step) → IsAt trail place decision → is_decided decision ≡ true → count ≤ place → (count ≡ place) × (rank vars (reverse trail) < 2 * power_of_three (vars - 1 - length steps) + rank vars steps)

module _ (vars place : ℕ) (trail : List Step) where
  pub undone_none : UndoneTo vars place trail (reverse trail) (length trail)
  undone_none = record {
    cut = ap reverse (sym (take_all (length trail) trail (omega arith)));
    inside = omega arith;
    reaches = omega arith;
    lower = λ decision at _ past. absurd (omega (arith, at.0));
  }

  pub undone_more : (values : List (Option Bool)) (steps older : List Step) (step : Step) (count : ℕ) → IsLinked vars values steps → steps ≡ step ∷ older → place < count + 1 → UndoneTo vars place trail steps (count + 1) → UndoneTo vars place trail older count
  undone_more values steps older step count linked popped further undone =
      let ahead : cut_to (count + 1) trail ≡ get_or trail count step ∷ cut_to count trail =
      ap reverse (take_more trail count step (omega (arith, undone.inside))) ∙ reverse-append (take count trail) (get_or trail count step ∷ []) in
      let both : step ∷ older ≡ get_or trail count step ∷ cut_to count trail = sym popped ∙ (undone.cut ∙ ahead) in
      let same : step ≡ get_or trail count step = cc in
      let rest : older ≡ cut_to count trail = cc in
      record {
        cut = rest;
        inside = omega (arith, undone.inside);
        reaches = reach_on vars (reverse trail) steps values step older linked popped undone.reaches;
        lower = λ decision at decided past.
            let here : count ≡ place = omega arith in
            let found : step ≡ decision = same ∙ (ap (λ n. get_or trail n step) here ∙ (get_or_default trail place step decision at.0 ∙ at.1)) in
            let turned : is_decided step ≡ true = ap is_decided found ∙ decided in
            (here, omega (arith, reach_above vars (reverse trail), undone.reaches, ap (reach vars) popped, reach_decided vars step older turned));
      }

-- where an implied step stands in the place of the decision, the trail stands higher
pub turned_higher : (vars : ℕ) (step : Step) (old mid new : List Step) → is_decided step ≡ false → rank vars old < 2 * power_of_three (vars - 1 - length mid) + rank vars mid → new ≡ step ∷ mid → rank vars old < rank vars new
turned_higher vars step old mid new implied lower pushed =
    let heavy : weight step ≡ 2 = ap (λ b. if b then 1 else 2) implied in
    let raised : rank vars new ≡ 2 * power_of_three (vars - 1 - length mid) + rank vars mid = ap (rank vars) pushed ∙ ap (λ w. w * power_of_three (vars - 1 - length mid) + rank vars mid) heavy in
    omega (arith, lower)

-- a clause of no literals holds in no set
pub none_holds : (clause : List Lit) (set : NumberSet) → length clause ≡ 0 → clause_holds set clause ≡ true → ⊥
none_holds [] set none holds = false≢true holds
none_holds (first ∷ rest) set none holds = absurd (omega arith)
