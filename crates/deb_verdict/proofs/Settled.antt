-- What the solutions of a formula over a closure say of a part of the constraints.
use Rattle.std.proofs.Common.{◌≡◌, ℕ, ◌<◌, Bool, true, List, [], length, get_or, map, Some, slice_get, sym, subst, ◌∙◌, ap}
use Rattle.std.specs.Option.{option_map}
use Rattle.std.proofs.lemmas.Bool.{and_parts, and_from}
use Rattle.std.proofs.lemmas.Option.{slice_get_within, get_or_from_slice_get, slice_get-get_or, slice_get-map, same_Some}
use Rattle.deb_index.specs.declared.constraint.Constraint.{Constraint}
use Rattle.deb_index.specs.Packages.{IndexView}
use Rattle.deb_index.specs.Constraints.{constraints_of}
use Rattle.number_sets.specs.Sets.{NumberSet, members_of, IsWithin}
use Rattle.sat_solve.specs.Clauses.{Clauses, IsTrueSet}
use Rattle.deb_encode.specs.Play.{placed, TellsPlaces}
use Rattle.deb_verdict.specs.Closure.{cut, kept, IsClosed}
use Rattle.deb_verdict.specs.Formulas.{IsChosen}
use Rattle.deb_health.specs.Health.{AdmitsNone}
use Rattle.number_sets.proofs.ListMembers.{members_of_at, at_members_of}
use Rattle.deb_verdict.proofs.Cutting.{fewer_meets, kept_admits}
use Rattle.deb_verdict.proofs.Encoded.{none_true, true_meets}

-- the positions whose groups are kept are of the part
pub kept_has : (part : NumberSet) (positions : List ℕ) (group : ℕ) → group < length positions → slice_get (map part positions) group ≡ Some true → part (get_or positions group 0) ≡ true
kept_has part positions group inside kept =
    same_Some (part (get_or positions group 0)) true (sym (slice_get-map part positions group ∙ ap (option_map part) (slice_get-get_or positions group 0 inside)) ∙ kept)

-- a formula with a variable for each member of a package's closure, and a group for each constraint that speaks of one
pub record IsOfClosure (index : IndexView) (p : ℕ) (members positions : List ℕ) (constraints : List Constraint) (formula : Clauses) : Type 0 where
  pub closed : IsClosed index p (members_of members)
  pub all : IsWithin (kept index (members_of members)) (members_of positions)
  pub vars : formula.vars ≡ length members
  pub stand : map (slice_get (constraints_of index)) positions ≡ map Some constraints
  pub tells : TellsPlaces index [] members constraints formula.clauses

module _ (index : IndexView) (p : ℕ) (members positions : List ℕ) (constraints : List Constraint) (formula : Clauses)
    (of_closure : IsOfClosure index p members positions constraints formula) (must : ℕ) (must_there : slice_get members must ≡ Some p) where
  must_inside : must < length members
  must_inside = slice_get_within members must p must_there

  must_is : get_or members must 0 ≡ p
  must_is = get_or_from_slice_get members must p 0 must_there

  -- the positions of groups that have no true set admit none
  pub told_refuted : (marks : List Bool) (used : NumberSet) → IsChosen positions marks used → ((set : NumberSet) → IsTrueSet formula.vars formula.clauses marks must set → ⊥) → AdmitsNone index p used
  told_refuted marks used chosen none =
      let HaveNone : ℕ → Type 0 = λ vars. (set : NumberSet) → IsTrueSet vars formula.clauses marks must set → ⊥ in
      none_true index members positions constraints of_closure.stand formula.clauses of_closure.tells marks used chosen p must must_inside must_is of_closure.closed
      (subst HaveNone of_closure.vars none)

  module _ (part : NumberSet) where
    has_group : (group : ℕ) → group < length positions → slice_get (map part positions) group ≡ Some (part (get_or positions group 0))
    has_group group inside = slice_get-map part positions group ∙ ap (option_map part) (slice_get-get_or positions group 0 inside)

    chosen_of_part : IsChosen positions (map part positions) (cut part (members_of positions))
    chosen_of_part k = (
      λ both.
          let parts = and_parts (part k) (members_of positions k) both in
          let at = members_of_at positions k parts.1 in
          (at.0, at.1, has_group at.0 at.1 ∙ ap Some (ap part at.2 ∙ parts.0), at.2),
      λ at.
          and_from (part k) (members_of positions k)
          (sym (ap part at.3) ∙ kept_has part positions at.0 at.1 at.2)
          (sym (ap (members_of positions) at.3) ∙ at_members_of positions at.0 at.1),
    )

    -- a true set of the part's groups is one that the part admits
    pub told_admitted : (set : NumberSet) → IsTrueSet formula.vars formula.clauses (map part positions) must set → AdmitsNone index p part → ⊥
    told_admitted set is_one none =
        let IsOne : ℕ → Type 0 = λ vars. IsTrueSet vars formula.clauses (map part positions) must set in
        let places : NumberSet = placed [] members set in
        let meeting =
        true_meets index members positions constraints of_closure.stand formula.clauses of_closure.tells (map part positions) (cut part (members_of positions)) chosen_of_part p must must_inside
        must_is set (subst IsOne of_closure.vars is_one) in
        none (kept_admits index p (members_of members) of_closure.closed part (
          places,
          meeting.0,
          fewer_meets index places (cut part (kept index (members_of members))) (cut part (members_of positions))
              (λ k both. (let parts = and_parts (part k) (kept index (members_of members) k) both in and_from (part k) (members_of positions k) parts.0 (of_closure.all k parts.1))) meeting.1,
        ))
