-- Sets that break one group alone, and lists of the spans that speak of a variable or of a group.
use Rattle.std.specs.Prelude.{◌≡◌, ◌≢◌, ℕ, ◌+◌, ◌<◌, ◌==◌, ◌||◌, Bool, true, false, not, Vec, Some, List, All, length, if◌then◌else◌, slice_get, slice_range, slice_index_or}
use Rattle.std.specs.List.{list_all}
use Rattle.std.specs.Option.{option_map_or}
use Rattle.std.specs.declared.alloc.Global.{Global}
use Rattle.number_sets.specs.Sets.{NumberSet, members_of}
use Rattle.sat_solve.specs.Clauses.{Clause, clause_holds, MeetsSpan, clauses_of, no_span}
use Rattle.sat_solve.specs.Reasons.{variables_of}
use Rattle.sat_solve.specs.declared.clause.Lit.{Lit}
use Rattle.sat_solve.specs.declared.clause.Span.{Span}
use Rattle.sat_solve.specs.declared.clause.Problem.{Problem}

-- the set makes each clause of a kept group true, but for those of one group, and is else one that is asked for
pub record IsTrueBut (vars : ℕ) (clauses : List Clause) (keep : List Bool) (must group : ℕ) (set : NumberSet) : Type 0 where
  pub within : (var : ℕ) → set var ≡ true → var < vars
  pub has_must : set must ≡ true
  pub meets : All (λ clause. slice_get keep clause.group ≡ Some true → clause.group ≢ group → clause_holds set clause.literals ≡ true) clauses

-- each marked group is needed: without its clauses there is a set
abbrev pub AreNeeded : ℕ → List Clause → List Bool → ℕ → List Bool → Type 0
AreNeeded vars clauses keep must marks = (group : ℕ) → slice_get marks group ≡ Some true → (set : NumberSet) × IsTrueBut vars clauses keep must group set

-- the same of a problem's clauses
abbrev pub MarksNeeded : Problem → List Bool → Type 0
MarksNeeded problem marks = AreNeeded problem.vars (clauses_of problem.literals.now problem.spans.now) problem.keep.now problem.must marks

-- the variables that are in, with one of them turned
abbrev pub turned : List Bool → ℕ → NumberSet
turned inside turn var = if var == turn then not (slice_index_or inside var true) else slice_index_or inside var false

-- no literal of this part has a variable of the set
abbrev pub IsClearPart : NumberSet → List Lit → ℕ × ℕ → Type 0
IsClearPart set literals part = list_all (λ literal. not (set literal.var)) (slice_range literals part.0 part.1) ≡ true

-- the set meets a span, where that is one, kept, and not of the group
abbrev pub MeetsBut : Problem → NumberSet → ℕ → ℕ → Type 0
MeetsBut problem set group k =
    k < length problem.spans.now
    → slice_index_or problem.keep.now (slice_index_or problem.spans.now k no_span).group false ≡ true
    → (slice_index_or problem.spans.now k no_span).group ≢ group
    → MeetsSpan set problem.literals.now (slice_index_or problem.spans.now k no_span)

-- the set has `must`, and breaks no kept group but this one
pub record BreaksAlone (problem : Problem) (inside : List Bool) (group : ℕ) : Type 0 where
  pub sized : length inside ≡ problem.vars
  pub has_must : slice_index_or inside problem.must false ≡ true
  pub met : (k : ℕ) → MeetsBut problem (λ var. slice_index_or inside var false) group k

-- a span speaks of the variables of its part, of its owner, and, past all variables, of its group
abbrev pub speaks : Problem → Span → NumberSet
speaks problem span key =
    variables_of (slice_range problem.literals.now span.start span.end) key || (option_map_or (λ owner. owner == key) span.owner false || (problem.vars + span.group == key))

-- the list at a number, if there is one, has a span
abbrev pub HasAt : List (Vec ℕ Global) → ℕ → ℕ → Type 0
HasAt lists key k = (list : Vec ℕ Global) → slice_get lists key ≡ Some list → members_of list.items k ≡ true

-- what was listed still is
abbrev pub ListsOn : List (Vec ℕ Global) → List (Vec ℕ Global) → Type 0
ListsOn old new = (key k : ℕ) → HasAt old key k → HasAt new key k

-- a span is listed at all that it speaks of
abbrev pub IsListed : Problem → List (Vec ℕ Global) → ℕ → Type 0
IsListed problem lists k = (key : ℕ) → speaks problem (slice_index_or problem.spans.now k no_span) key ≡ true → HasAt lists key k
