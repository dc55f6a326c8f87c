-- The state of a solve between two steps of it.
use Rattle.std.specs.Prelude.{◌≡◌, ◌≢◌, ℕ, ◌+◌, ◌*◌, ◌-◌, ◌<◌, ◌≤◌, Bool, true, false, Option, None, IfSome, List, All, length, take, reverse}
use Rattle.number_sets.specs.Sets.{NumberSet}
use Rattle.sat_solve.specs.Clauses.{clause_holds}
use Rattle.sat_solve.specs.Trail.{value_in, is_decision, IsSound, rank, power_of_three, steps_of, IsTrail}
use Rattle.sat_solve.specs.Reasons.{IsSolution, IsUsed, IsLearnt, Backs, variables_of, named_by, AreReasoned, IsPart, AreParts, end_before, FailsOn}
use Rattle.sat_solve.specs.declared.clause.Lit.{Lit}
use Rattle.sat_solve.specs.declared.trail.Reason.{Reason}
use Rattle.sat_solve.specs.declared.clause.Problem.{Problem}
use Rattle.sat_solve.specs.declared.solver.Solver.{Solver}

-- the trail of a solver is right for a problem
pub record IsSolver (problem : Problem) (solver : Solver) : Type 0 where
  pub linked : IsTrail solver.trail
  pub vars : solver.trail.vars ≡ problem.vars
  pub sound : IsSound (IsSolution problem) (steps_of solver.trail)
  pub reasoned : AreReasoned (Backs problem solver.used.items) (named_by problem solver.arena.items) (steps_of solver.trail)
  pub parts : AreParts (steps_of solver.trail) (length solver.arena.items)
  pub below : (var : ℕ) → var < solver.cursor → value_in (steps_of solver.trail) var ≢ None
  pub used : IsUsed problem solver.used.items
  pub learnt : All (IsLearnt problem solver.used.items) solver.learnt.items

-- a reason brings in a clause that each set makes true that is looked for, and is fit for the next step
pub record Gives (problem : Problem) (solver : Solver) (reason : Reason) (clause : List Lit) : Type 0 where
  pub implied : is_decision reason ≡ false
  pub meets : (set : NumberSet) → IsSolution problem set → clause_holds set clause ≡ true
  pub backed : (set : NumberSet) → Backs problem solver.used.items reason set → clause_holds set clause ≡ true
  pub part : IsPart reason (length solver.arena.items)
  pub parts : AreParts (steps_of solver.trail) (end_before reason (length solver.arena.items))
  pub named : (var : ℕ) → variables_of clause var ≡ true → named_by problem solver.arena.items reason var ≡ true

-- the steps down to the decision at a place were taken back, and that one too
pub record UndoesTo (place : ℕ) (old new : Solver) : Type 0 where
  pub linked : IsTrail new.trail
  pub vars : new.trail.vars ≡ old.trail.vars
  pub keeps : (problem : Problem) → IsSolver problem old → IsSolver problem new
  pub cut : steps_of new.trail ≡ reverse (take place old.trail.steps.items)
  pub lower : rank old.trail.vars (steps_of old.trail) < 2 * power_of_three (old.trail.vars - 1 - length (steps_of new.trail)) + rank old.trail.vars (steps_of new.trail)

-- a conflict: no set that backs the reason agrees with the trail on what the reason names
abbrev pub IsConflict : Problem → Solver → Reason → Type 0
IsConflict problem solver reason = FailsOn (Backs problem solver.used.items reason) (steps_of solver.trail) (named_by problem solver.arena.items reason)

-- how high the trail of a solver stands
abbrev pub height : Problem → Solver → ℕ
height problem solver = rank problem.vars (steps_of solver.trail)

-- the solver went on, and found this conflict or none
pub record GoesOn (problem : Problem) (old new : Solver) (found : Option Reason) : Type 0 where
  pub solver : IsSolver problem new
  pub rises : height problem old ≤ height problem new
  pub conflict : IfSome found (IsConflict problem new)

-- the solver decided a variable, if one was free
pub record Decides (problem : Problem) (old new : Solver) (decided : Bool) : Type 0 where
  pub solver : IsSolver problem new
  pub rises : height problem old ≤ height problem new
  pub higher : decided ≡ true → height problem old < height problem new
  pub full : decided ≡ false → (var : ℕ) → var < problem.vars → value_in (steps_of new.trail) var ≢ None
