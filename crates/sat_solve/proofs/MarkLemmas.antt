-- Marks on groups: more of them, and what the sets that meet the marked groups meet.
use Rattle.std.proofs.Common.{◌≡◌, ℕ, ◌<◌, Bool, true, false, Vec, All, Option, Some, None, List, length, get_or, set, slice_get, refl, sym, ◌∙◌, ap, subst, inl, inr, get_or-set_same, get_or-set_other}
use Rattle.std.proofs.lemmas.Bool.{false≢true, cases_lt, cases_eq}
use Rattle.std.proofs.lemmas.List.{get_or_past}
use Rattle.std.proofs.lemmas.Option.{slice_get-get_or, slice_get_within, get_or_from_slice_get}
use Rattle.number_sets.specs.Sets.{NumberSet}
use Rattle.std.specs.declared.alloc.Global.{Global}
use Rattle.sat_solve.specs.Clauses.{IsAnswer, Clause, AreWithin, no_span}
use Rattle.sat_solve.specs.Reasons.{IsSolution, IsMarkedSolution, IsAnswerTo, IsUsed, IsLearnt, Backs}
use Rattle.sat_solve.specs.declared.clause.Lit.{Lit}
use Rattle.sat_solve.specs.declared.trail.Reason.TheVariants.{Clause as OfClause}
use Rattle.sat_solve.specs.declared.clause.Problem.{Problem}
use Rattle.sat_solve.proofs.SpanLemmas.{clause_met}

-- a mark that is read is there
pub there_if_read : (marks : List Bool) (group : ℕ) → get_or marks group false ≡ true → slice_get marks group ≡ Some true
there_if_read marks group is = elim (cases_lt group (length marks)) [
  | inl inside ↦ slice_get-get_or marks group false inside ∙ ap Some is
  | inr past ↦ absurd (false≢true (sym (get_or_past marks group false past) ∙ is))
]

-- one group more is marked
pub marked_more : (marks : List Bool) (group : ℕ) → AreWithin marks (set marks group true)
marked_more marks group other found =
    let inside : other < length marks = slice_get_within marks other true found in
    let there : get_or marks other false ≡ true = get_or_from_slice_get marks other true false found in
    there_if_read (set marks group true) other (elim (cases_eq other group) [
      | inl same ↦ subst (λ g. get_or (set marks g true) other false ≡ true) same (get_or-set_same marks other true false inside)
      | inr apart ↦ get_or-set_other marks group other true false apart ∙ there
    ])

-- where more groups are marked, fewer sets meet them
pub fewer_meet : (problem : Problem) (old new : List Bool) (members : NumberSet) → AreWithin old new → IsMarkedSolution problem new members → IsMarkedSolution problem old members
fewer_meet problem old new members within holds = record {
  within = holds.within;
  has_must = holds.has_must;
  meets = λ i clause inside found. holds.meets i clause inside (within _ found);
}

-- what the problem asks for meets the marked groups
pub solutions_meet : (problem : Problem) (used : List Bool) (members : NumberSet) → IsUsed problem used → IsSolution problem members → IsMarkedSolution problem used members
solutions_meet problem used members is holds = fewer_meet problem used problem.keep.now members is.within holds

-- with more marks the learnt clauses follow, too
pub learnt_more : (problem : Problem) (old new : List Bool) (learnt : List (Vec Lit Global)) → ((members : NumberSet) → IsMarkedSolution problem new members → IsMarkedSolution problem old members) → All (IsLearnt problem old) learnt → All (IsLearnt problem new) learnt
learnt_more problem old new learnt fewer all = λ k d inside. ((all k d inside).0, λ members holds. (all k d inside).1 members (fewer members holds))

-- what was answered with some marks is answered of the kept groups too
pub by_kept : (vars : ℕ) (clauses : List Clause) (keep : List Bool) (must : ℕ) (marks : List Bool) (answer : Option (Vec ℕ Global)) → IsAnswer vars clauses keep must marks answer → IsAnswer vars clauses keep must keep answer
by_kept vars clauses keep must marks None is = record { rising = tt; first = tt; none = is.none; sized = refl; kept = λ group kept. kept; marked = is.none }
by_kept vars clauses keep must marks (Some members) is = record { rising = is.rising; first = is.first; none = tt; sized = tt; kept = tt; marked = tt }

-- where no set meets the marked groups, that there is none is answered
pub none_answered : (problem : Problem) (used : List Bool) → IsUsed problem used → ((set : NumberSet) → IsMarkedSolution problem used set → ⊥) → IsAnswerTo problem used None
none_answered problem used is none = record {
  rising = tt;
  first = tt;
  none = λ set holds. none set (solutions_meet problem used set is holds);
  sized = is.sized;
  kept = is.within;
  marked = none;
}

-- a clause brings in nothing but what its marked group does
pub backed_clause : (problem : Problem) (old new : List Bool) (clause : ℕ) → IsUsed problem new → AreWithin old new → clause < length problem.spans.now → (get_or problem.keep.now (get_or problem.spans.now clause no_span).group false ≡ true → slice_get new (get_or problem.spans.now clause no_span).group ≡ Some true) → (members : NumberSet) → IsMarkedSolution problem new members → Backs problem old (OfClause clause) members
backed_clause problem old new clause is within below marked members holds = (
  fewer_meet problem old new members within holds,
  λ _ unowned kept. clause_met problem.vars (length problem.keep.now) problem.literals.now problem.spans.now problem.clauses clause no_span below
      new members is.sized unowned (get_or_from_slice_get new _ true false (marked kept)) holds.meets,
)
