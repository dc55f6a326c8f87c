-- Why variables have their values: what steps and conflicts rest on.
use Rattle.std.specs.Prelude.{◌≡◌, ℕ, ◌<◌, ◌≤◌, ◌==◌, Bool, true, false, Vec, Option, Some, is_some, List, [], ◌∷◌, All, Contains, length, take, slice_range, slice_index_or}
use Rattle.std.specs.List.{list_any}
use Rattle.std.specs.declared.alloc.Global.{Global}
use Rattle.number_sets.specs.Sets.{NumberSet}
use Rattle.sat_solve.specs.Clauses.{IsTrueSet, AreWithin, clause_holds, not_both, IsAnswer, clause_at, clauses_of, no_span}
use Rattle.sat_solve.specs.Trail.{value_in, is_decision, is_decided}
use Rattle.sat_solve.specs.declared.clause.Lit.{Lit}
use Rattle.sat_solve.specs.declared.trail.Step.{Step}
use Rattle.sat_solve.specs.declared.trail.Reason.{Reason}
use Rattle.sat_solve.specs.declared.trail.Reason.TheVariants.{Decision, Given, Clause, Pair, Learnt, AllOlder}
use Rattle.sat_solve.specs.declared.clause.Problem.{Problem}

-- the set is one that the problem asks for
abbrev pub IsSolution : Problem → NumberSet → Type 0
IsSolution problem = IsTrueSet problem.vars (clauses_of problem.literals.now problem.spans.now) problem.keep.now problem.must

-- the set makes the clauses of the marked groups true, and is else one that the problem asks for
abbrev pub IsMarkedSolution : Problem → List Bool → NumberSet → Type 0
IsMarkedSolution problem used = IsTrueSet problem.vars (clauses_of problem.literals.now problem.spans.now) used problem.must

-- what a solve answers to the problem, with these marks where no set was found
abbrev pub IsAnswerTo : Problem → List Bool → Option (Vec ℕ Global) → Type 0
IsAnswerTo problem = IsAnswer problem.vars (clauses_of problem.literals.now problem.spans.now) problem.keep.now problem.must

-- the marks, one a group, are on kept groups
pub record IsUsed (problem : Problem) (used : List Bool) : Type 0 where
  pub sized : length used ≡ length problem.keep.now
  pub within : AreWithin used problem.keep.now

-- the clause of this number holds in the set, where it is one and is kept
abbrev pub MeetsOne : Problem → ℕ → NumberSet → Type 0
MeetsOne problem number set =
    number < length problem.spans.now
    → is_some (slice_index_or problem.spans.now number no_span).owner ≡ false
    → slice_index_or problem.keep.now (slice_index_or problem.spans.now number no_span).group false ≡ true
    → clause_holds set (clause_at problem.literals.now (slice_index_or problem.spans.now number no_span)).literals ≡ true

-- two variables are not both in the set, where that is a clause of a kept group
abbrev pub MeetsPair : Problem → ℕ → ℕ → ℕ → NumberSet → Type 0
MeetsPair problem group owner other set =
    Contains (clauses_of problem.literals.now problem.spans.now) (record { group = group; literals = not_both owner other })
    → slice_index_or problem.keep.now group false ≡ true
    → clause_holds set (not_both owner other) ≡ true

-- the set meets what a reason brings in
abbrev pub Brings : Problem → Reason → NumberSet → Type 0
Brings problem Decision set = Unit {0}
Brings problem Given set = Unit {0}
Brings problem (Clause number) set = MeetsOne problem number set
Brings problem (Pair group owner other) set = MeetsPair problem group owner other set
Brings problem (Learnt start end) set = Unit {0}
Brings problem AllOlder set = IsSolution problem set

-- the set makes the clauses of the marked groups true, and meets what a reason brings in
abbrev pub Backs : Problem → List Bool → Reason → NumberSet → Type 0
Backs problem used reason set = IsMarkedSolution problem used set × Brings problem reason set

-- the variables of these literals
abbrev pub variables_of : List Lit → NumberSet
variables_of literals var = list_any (λ literal. literal.var == var) literals

-- the variables that a reason names
abbrev pub named_by : Problem → List Lit → Reason → NumberSet
named_by problem arena Decision = λ _. false
named_by problem arena Given = λ _. false
named_by problem arena (Clause number) = variables_of (clause_at problem.literals.now (slice_index_or problem.spans.now number no_span)).literals
named_by problem arena (Pair group owner other) = variables_of (not_both owner other)
named_by problem arena (Learnt start end) = variables_of (slice_range arena start end)
named_by problem arena AllOlder = λ _. true

-- the set has the values that these steps give to these variables
abbrev pub AgreesOn : List Step → NumberSet → NumberSet → Type 0
AgreesOn steps marked set = (var : ℕ) (value : Bool) → marked var ≡ true → value_in steps var ≡ Some value → set var ≡ value

-- no set with P agrees with these steps on these variables
abbrev pub FailsOn : (NumberSet → Type 0) → List Step → NumberSet → Type 0
FailsOn P steps marked = (set : NumberSet) → P set → AgreesOn steps marked set → ⊥

-- a clause follows from the marked groups: each set that meets them makes it true
abbrev pub Implied : Problem → List Bool → List Lit → Type 0
Implied problem used clause = (set : NumberSet) → IsMarkedSolution problem used set → clause_holds set clause ≡ true

-- a learnt clause follows from the marked groups, and its variables are in range
abbrev pub IsLearnt : Problem → List Bool → Vec Lit Global → Type 0
IsLearnt problem used clause = All (λ literal. literal.var < problem.vars) clause.items × Implied problem used clause.items

-- a step rests on these older variables
abbrev pub RestsOn : (NumberSet → Type 0) → List Step → Step → NumberSet → Type 0
RestsOn P older step reasons = (set : NumberSet) → P set → AgreesOn older reasons set → set step.var ≡ step.value

-- each step that was not decided rests on the variables that its reason names, where the sets that back the reason are looked for
abbrev pub AreReasoned : (Reason → NumberSet → Type 0) → (Reason → NumberSet) → List Step → Type 0
AreReasoned backs named [] = Unit {0}
AreReasoned backs named (step ∷ older) = (is_decided step ≡ false → RestsOn (backs step.reason) older step (named step.reason)) × AreReasoned backs named older

-- a reason's part of the arena lies below this end
abbrev pub IsPart : Reason → ℕ → Type 0
IsPart (Learnt start stop) end = (start ≤ stop) × (stop ≤ end)
IsPart _ end = Unit {0}

-- where the arena ends without a reason's part
abbrev pub end_before : Reason → ℕ → ℕ
end_before (Learnt start stop) end = start
end_before _ end = end

-- the parts of the steps lie in the arena one below another, the newest step's highest
abbrev pub AreParts : List Step → ℕ → Type 0
AreParts [] end = Unit {0}
AreParts (step ∷ older) end = IsPart step.reason end × AreParts older (end_before step.reason end)

-- a variable is seen: it is marked, or past the marks
abbrev pub is_seen : List Bool → NumberSet
is_seen marks var = slice_index_or marks var true

-- where this is the reason of a step, it names the clause's variables, and the arena before it stands as it did
pub record IsReasonFor (clause old new : List Lit) (reason : Reason) : Type 0 where
  pub named : (problem : Problem) (var : ℕ) → variables_of clause var ≡ true → named_by problem new reason var ≡ true
  pub ends : end_before reason (length new) ≡ length old
  pub part : IsPart reason (length new)
  pub kept : take (length old) new ≡ old
  pub implied : is_decision reason ≡ false

-- these variables are seen now, and what was seen before still is
pub record SeesAll (named : NumberSet) (old new : List Bool) : Type 0 where
  pub kept : (var : ℕ) → is_seen old var ≡ true → is_seen new var ≡ true
  pub seen : (var : ℕ) → named var ≡ true → is_seen new var ≡ true
