-- How a solver goes on by one step.
use Rattle.std.proofs.Common.{◌≡◌, ◌≢◌, ℕ, ◌-◌, ◌<◌, ◌≤◌, Vec, Bool, true, false, ltb, is_some, All, Contains, slice_get, Option, Some, None, List, ◌∷◌, length, length-take, take, get_or, slice_range, refl, sym, ◌∙◌, ap, subst, inl, inr, arith}
use mathlib.Core.Path.{fun_ext}
use Rattle.std.proofs.lemmas.Bool.{false≢true, ltb-true}
use Rattle.std.proofs.lemmas.List.{take_all}
use Rattle.std.proofs.lemmas.List.Elements.{All-contains}
use Rattle.std.specs.declared.alloc.Global.{Global}
use Rattle.std.proofs.lemmas.Bool.Decides.{eqb_tells}
use Rattle.number_sets.specs.Sets.{NumberSet, IsFirst, members_of}
use Rattle.sat_solve.specs.Clauses.{clause_holds, not_both, clauses_of, no_span}
use Rattle.sat_solve.specs.Trail.{ComesDownTo, value_in, set_of, is_decided, Follows, IsSound, IsLinked, rank, power_of_three, steps_of, IsTrail}
use Rattle.sat_solve.specs.Reasons.{IsSolution, IsLearnt, Implied, Backs, named_by, RestsOn, AreReasoned, AreParts, FailsOn, IsReasonFor}
use Rattle.sat_solve.specs.SolverState.{IsSolver, Gives, GoesOn, height}
use Rattle.sat_solve.specs.Jumps.{AreDenied}
use Rattle.sat_solve.specs.declared.clause.Lit.{Lit}
use Rattle.sat_solve.specs.declared.trail.Step.{Step}
use Rattle.sat_solve.specs.declared.trail.Trail.{Trail}
use Rattle.sat_solve.specs.declared.trail.Reason.{Reason}
use Rattle.sat_solve.specs.declared.trail.Reason.TheVariants.{Decision, Clause, Pair, AllOlder}
use Rattle.sat_solve.specs.declared.clause.Problem.{Problem}
use Rattle.sat_solve.specs.declared.solver.Solver.{Solver}
use Rattle.sat_solve.proofs.TrailLemmas.{value_in_newest, value_in_older, rank_rises, rank_below, set_of_is_first}
use Rattle.sat_solve.proofs.ValueLemmas.{trail_fits}
use Rattle.sat_solve.proofs.StepLemmas.{forced_sound, decided_sound, only_set}
use Rattle.sat_solve.proofs.AnalysisLemmas.{comes_down}
use Rattle.sat_solve.proofs.SpanLemmas.{clause_met}
use Rattle.sat_solve.proofs.MarkLemmas.{there_if_read, solutions_meet}
use Rattle.sat_solve.proofs.ReasonLemmas.{forced_rests, conflict_fails, refuted_fails, reasoned_same, parts_more}

-- what was set is set under a newer step
set_under : (step : Step) (older : List Step) (var : ℕ) → value_in older var ≢ None → value_in (step ∷ older) var ≢ None
set_under step older var was free =
    elim (eqb_tells step.var var) [
      | inl same ↦ let some : value_in (step ∷ older) var ≡ Some step.value = value_in_newest step older var same.1 in cc
      | inr other ↦ was (sym (value_in_older step older var other.1) ∙ free)
    ]

-- a step is put on the trail
pub pushed_solver : (problem : Problem) (old : Solver) (trail : Trail) (cursor propagated : ℕ) (step : Step) → IsSolver problem old → Follows (IsSolution problem) (steps_of old.trail) step → (is_decided step ≡ false → RestsOn (Backs problem old.used.items step.reason) (steps_of old.trail) step (named_by problem old.arena.items step.reason)) → AreParts (step ∷ steps_of old.trail) (length old.arena.items) → ((var : ℕ) → var < cursor → value_in (steps_of old.trail) var ≢ None) → IsTrail trail → trail.vars ≡ old.trail.vars → steps_of trail ≡ step ∷ steps_of old.trail → IsSolver problem (record { trail = trail; arena = old.arena; learnt = old.learnt; size = old.size; cursor = cursor; propagated = propagated; used = old.used })
pushed_solver problem old trail cursor propagated step is follows rests parts below linked vars pushed = record {
  linked = linked;
  vars = vars ∙ is.vars;
  sound = subst (IsSound (IsSolution problem)) (sym pushed) (follows, is.sound);
  reasoned = subst (AreReasoned (Backs problem old.used.items) (named_by problem old.arena.items)) (sym pushed) (rests, is.reasoned);
  parts = subst (λ steps. AreParts steps (length old.arena.items)) (sym pushed) parts;
  below = λ var less free. set_under step (steps_of old.trail) var (below var less) (ap (λ steps. value_in steps var) (sym pushed) ∙ free);
  used = is.used;
  learnt = is.learnt;
}

module _ (problem : Problem) (old : Solver) (reason : Reason) (clause : List Lit) (is : IsSolver problem old) (gives : Gives problem old reason clause) where
  -- a clause that comes down to one free literal forces it
  pub goes_on_forced : (trail : Trail) (literal : Lit) → ComesDownTo old.trail.vars (steps_of old.trail) clause (Some literal) → IsTrail trail → trail.vars ≡ old.trail.vars → steps_of trail ≡ record { var = literal.var; value = literal.positive; reason = reason } ∷ steps_of old.trail → GoesOn problem old (record { trail = trail; arena = old.arena; learnt = old.learnt; size = old.size; cursor = old.cursor; propagated = old.propagated; used = old.used }) None
  goes_on_forced trail literal down linked vars pushed =
      let P : NumberSet → Type 0 = IsSolution problem in
      let step : Step = record { var = literal.var; value = literal.positive; reason = reason } in
      let sound = forced_sound P (steps_of old.trail) is.sound old.trail.vars reason clause literal gives.implied gives.meets down in
      let rests = forced_rests (Backs problem old.used.items reason) old.trail.vars (steps_of old.trail) clause gives.backed reason literal down in
      record {
        solver = pushed_solver problem old trail old.cursor old.propagated step is sound.0
            (λ _ set holds agrees. rests set holds (λ var value mark found. agrees var value (gives.named var mark) found))
            (gives.part, gives.parts) is.below linked vars pushed;
        rises = subst (λ steps. rank problem.vars (steps_of old.trail) ≤ rank problem.vars steps) (sym pushed) (omega (arith, rank_rises problem.vars step (steps_of old.trail)));
        conflict = tt;
      }

  -- a clause that fails
  pub goes_on_conflict : ComesDownTo old.trail.vars (steps_of old.trail) clause None → GoesOn problem old old (Some reason)
  goes_on_conflict down = record {
    solver = is;
    rises = omega arith;
    conflict = λ set holds agrees. conflict_fails (Backs problem old.used.items reason) old.trail.vars (steps_of old.trail) clause gives.backed down set holds (λ var value mark found. agrees var value (gives.named var mark) found);
  }

-- a kept clause gives itself
pub clause_gives : (problem : Problem) (solver : Solver) (clause : ℕ) → IsSolver problem solver → clause < length problem.spans.now → is_some (get_or problem.spans.now clause no_span).owner ≡ false → get_or problem.keep.now (get_or problem.spans.now clause no_span).group false ≡ true → Gives problem solver (Clause clause) (slice_range problem.literals.now (get_or problem.spans.now clause no_span).start (get_or problem.spans.now clause no_span).end)
clause_gives problem solver clause is inside unowned kept = record {
  implied = refl;
  meets = λ set holds. clause_met problem.vars (length problem.keep.now) problem.literals.now problem.spans.now problem.clauses clause no_span inside problem.keep.now set refl unowned kept holds.meets;
  backed = λ set holds. holds.1 inside unowned kept;
  part = tt;
  parts = is.parts;
  named = λ var mark. mark;
}

-- a kept pair gives the clause that the two are not both in
pub pair_gives : (problem : Problem) (solver : Solver) (group owner other : ℕ) → IsSolver problem solver → get_or problem.keep.now group false ≡ true → Contains (clauses_of problem.literals.now problem.spans.now) (record { group = group; literals = not_both owner other }) → Gives problem solver (Pair group owner other) (not_both owner other)
pair_gives problem solver group owner other is kept listed = record {
  implied = refl;
  meets = λ set holds. All-contains (λ clause. slice_get problem.keep.now clause.group ≡ Some true → clause_holds set clause.literals ≡ true) (clauses_of problem.literals.now problem.spans.now) (record { group = group; literals = not_both owner other }) holds.meets listed (there_if_read problem.keep.now group kept);
  backed = λ set holds. holds.1 listed kept;
  part = tt;
  parts = is.parts;
  named = λ var mark. mark;
}

-- the arena takes in what a reason wants
abbrev pub with_arena : Solver → Vec Lit Global → Solver
with_arena old arena = record { trail = old.trail; arena = arena; learnt = old.learnt; size = old.size; cursor = old.cursor; propagated = old.propagated; used = old.used }

module _ (problem : Problem) (old : Solver) (arena : Vec Lit Global) (clause : List Lit) (reason : Reason) (is : IsSolver problem old) (for : IsReasonFor clause old.arena.items arena.items reason) where
  pub grown_solver : IsSolver problem (with_arena old arena)
  grown_solver =
      let same : take (length old.arena.items) old.arena.items ≡ take (length old.arena.items) arena.items = take_all (length old.arena.items) old.arena.items (omega arith) ∙ sym for.kept in
      let longer : length old.arena.items ≤ length arena.items = omega (arith, sym (ap length for.kept), length-take (length old.arena.items) arena.items) in
      record {
        linked = is.linked;
        vars = is.vars;
        sound = is.sound;
        reasoned = reasoned_same (Backs problem old.used.items) problem old.arena.items arena.items (steps_of old.trail) (length old.arena.items) is.parts same is.reasoned;
        parts = parts_more (steps_of old.trail) (length old.arena.items) (length arena.items) longer is.parts;
        below = is.below;
        used = is.used;
        learnt = is.learnt;
      }

  -- a clause that follows from the used groups gives itself
  pub learnt_gives : Implied problem old.used.items clause → Gives problem (with_arena old arena) reason clause
  learnt_gives follows = record {
    implied = for.implied;
    meets = λ set holds. follows set (solutions_meet problem old.used.items set is.used holds);
    backed = λ set holds. follows set holds.0;
    part = for.part;
    parts = subst (AreParts (steps_of old.trail)) (sym for.ends) is.parts;
    named = for.named problem;
  }

-- a learnt clause that was looked up
pub learnt_at : (problem : Problem) (used : List Bool) (clauses slice : List (Vec Lit Global)) (number : ℕ) (clause : Vec Lit Global) → All (IsLearnt problem used) clauses → slice ≡ clauses → true ≡ ltb number (length slice) → clause ≡ get_or slice number clause → IsLearnt problem used clause
learnt_at problem used clauses slice number clause all same inside found =
    subst (IsLearnt problem used) (sym found) (subst (All (IsLearnt problem used)) (sym same) all number clause (ltb-true number (length slice) (sym inside)))

-- a learnt clause forces its first literal where the trail denies the others
pub jumped_solver : (problem : Problem) (mid : Solver) (arena : Vec Lit Global) (first : Lit) (rest : List Lit) (reason : Reason) (trail : Trail) → IsSolver problem mid → IsReasonFor (first ∷ rest) mid.arena.items arena.items reason → Implied problem mid.used.items (first ∷ rest) → first.var < problem.vars → value_in (steps_of mid.trail) first.var ≡ None → AreDenied rest (steps_of mid.trail) → IsTrail trail → trail.vars ≡ mid.trail.vars → steps_of trail ≡ record { var = first.var; value = first.positive; reason = reason } ∷ steps_of mid.trail → IsSolver problem (with_arena (record { trail = trail; arena = mid.arena; learnt = mid.learnt; size = mid.size; cursor = mid.cursor; propagated = mid.propagated; used = mid.used }) arena)
jumped_solver problem mid arena first rest reason trail is for follows ranged free fail linked vars pushed =
    let below : first.var < mid.trail.vars = omega (arith, is.vars) in
    (goes_on_forced problem (with_arena mid arena) reason (first ∷ rest) (grown_solver problem mid arena (first ∷ rest) reason is for) (learnt_gives problem mid arena (first ∷ rest) reason is for follows)
    trail first (comes_down mid.trail.vars (steps_of mid.trail) first rest is.linked.fresh below free fail) linked vars pushed).solver

-- the least free variable is decided
pub decided_solver : (problem : Problem) (old : Solver) (trail : Trail) (var : ℕ) → IsSolver problem old → ((lower : ℕ) → lower < var → value_in (steps_of old.trail) lower ≢ None) → IsTrail trail → trail.vars ≡ old.trail.vars → steps_of trail ≡ record { var = var; value = false; reason = Decision } ∷ steps_of old.trail → IsSolver problem (record { trail = trail; arena = old.arena; learnt = old.learnt; size = old.size; cursor = var; propagated = old.propagated; used = old.used })
decided_solver problem old trail var is least linked vars pushed =
    let sound = decided_sound (IsSolution problem) (steps_of old.trail) is.sound var least in
    pushed_solver problem old trail var old.propagated (record { var = var; value = false; reason = Decision }) is sound.0 (λ forced. absurd (false≢true (sym forced))) (tt, is.parts) least linked vars pushed

pub decided_rises : (problem : Problem) (old : Solver) (trail : Trail) (var : ℕ) → steps_of trail ≡ record { var = var; value = false; reason = Decision } ∷ steps_of old.trail → rank problem.vars (steps_of old.trail) < rank problem.vars (steps_of trail)
decided_rises problem old trail var pushed =
    subst (λ steps. rank problem.vars (steps_of old.trail) < rank problem.vars steps) (sym pushed) (rank_rises problem.vars (record { var = var; value = false; reason = Decision }) (steps_of old.trail))

-- one stretch after another
pub goes_on : (problem : Problem) (first mid last : Solver) (earlier found : Option Reason) → GoesOn problem first mid earlier → GoesOn problem mid last found → GoesOn problem first last found
goes_on problem first mid last earlier found before after = record { solver = after.solver; rises = omega (arith, before.rises, after.rises); conflict = after.conflict }

pub went_on : (problem : Problem) (first mid last : Solver) (found : Option Reason) → is_some found ≡ false → GoesOn problem first mid None → GoesOn problem mid last found → GoesOn problem first last None
went_on problem first mid last None none before after = goes_on problem first mid last None None before after
went_on problem first mid last (Some conflict) none before after = absurd (false≢true (sym none))

-- where all variables are set, and not as the problem wants it, no set agrees with the trail
pub full_fails : (problem : Problem) (solver : Solver) → IsSolver problem solver → ((var : ℕ) → var < problem.vars → value_in (steps_of solver.trail) var ≢ None) → (IsSolution problem (set_of (steps_of solver.trail)) → ⊥) → FailsOn (Backs problem solver.used.items AllOlder) (steps_of solver.trail) (λ _. true)
full_fails problem solver is full unlike =
    let linked : IsLinked problem.vars solver.trail.values.items (steps_of solver.trail) = subst (λ vars. IsLinked vars solver.trail.values.items (steps_of solver.trail)) is.vars is.linked in
    refuted_fails (Backs problem solver.used.items AllOlder) (steps_of solver.trail) (λ set holds agrees.
    unlike (subst (IsSolution problem) (only_set problem.vars solver.trail.values.items (steps_of solver.trail) set linked full holds.1.within agrees) holds.1))

-- the set of the trail is the first, where it is one that the problem wants
pub first_found : (problem : Problem) (solver : Solver) (members : List ℕ) → IsSolver problem solver → IsSolution problem (set_of (steps_of solver.trail)) → ((var : ℕ) → members_of members var ≡ set_of (steps_of solver.trail) var) → IsFirst (IsSolution problem) (members_of members)
first_found problem solver members is holds lists =
    let sets : members_of members ≡ set_of (steps_of solver.trail) = fun_ext lists in
    subst (IsFirst (IsSolution problem)) (sym sets) (set_of_is_first (IsSolution problem) (steps_of solver.trail) is.sound is.linked.fresh holds)

-- what is left to do falls as the trail rises
pub work_left_falls : (problem : Problem) (old new : Solver) → IsSolver problem old → height problem old < height problem new → power_of_three problem.vars - height problem new < power_of_three problem.vars - height problem old
work_left_falls problem old new is higher =
    let linked : IsLinked problem.vars old.trail.values.items (steps_of old.trail) = subst (λ vars. IsLinked vars old.trail.values.items (steps_of old.trail)) is.vars is.linked in
    omega (arith, higher, rank_below problem.vars (steps_of old.trail) (trail_fits problem.vars old.trail.values.items (steps_of old.trail) linked))
