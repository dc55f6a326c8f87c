-- What the true sets of the clauses say of the constraints that stand at some positions.
use Rattle.std.proofs.Common.{◌≡◌, ℕ, ◌<◌, Bool, List, [], length, get_or, map, Some, slice_get, refl, sym, subst, ◌∙◌, ap, arith}
use mathlib.Core.Path.{fun_ext}
use Rattle.std.specs.Prelude.{true, ltb}
use Rattle.std.proofs.lemmas.Bool.{false≢true, and_parts, and_from, ltb-true, lt-ltb}
use Rattle.std.proofs.lemmas.List.{get_or-map, length-map}
use Rattle.std.proofs.lemmas.Option.{slice_get-get_or}
use Rattle.deb_index.specs.declared.constraint.Constraint.{Constraint}
use Rattle.deb_index.specs.declared.constraint.Constraint.TheVariants.{Only}
use Rattle.deb_index.specs.Packages.{IndexView}
use Rattle.deb_index.specs.Constraints.{constraints_of}
use Rattle.number_sets.specs.Sets.{NumberSet, members_of}
use Rattle.sat_solve.specs.Clauses.{Clause, MeetsKept, IsTrueSet}
use Rattle.deb_encode.specs.Play.{placed, TellsPlaces}
use Rattle.deb_verdict.specs.Closure.{cut, IsClosed}
use Rattle.deb_verdict.specs.Formulas.{IsChosen}
use Rattle.deb_health.specs.Health.{MeetsAt, AdmitsNone}
use Rattle.number_sets.proofs.PositionsOf.{position_in}
use Rattle.deb_verdict.proofs.Cutting.{none_of, closure_meets}
use Rattle.deb_verdict.proofs.FirstSet.{pulled_beside, placed_beside}

-- the constraints that stand at some positions, one for each
module _ (index : IndexView) (members positions : List ℕ) (constraints : List Constraint) (stand : map (slice_get (constraints_of index)) positions ≡ map Some constraints) where
  pub sizes : length positions ≡ length constraints
  sizes = sym (length-map positions (slice_get (constraints_of index))) ∙ (ap length stand ∙ length-map constraints (λ (c : Constraint). Some c))

  stands_at : (group : ℕ) → group < length positions → slice_get (constraints_of index) (get_or positions group 0) ≡ slice_get constraints group
  stands_at group inside =
      let below : group < length constraints = omega (arith, sizes) in
      sym (get_or-map (slice_get (constraints_of index)) positions group 0 (Some (Only 0)) inside)
      ∙ (ap (λ list. get_or list group (Some (Only 0))) stand
      ∙ (get_or-map (λ (c : Constraint). Some c) constraints group (Only 0) (Some (Only 0)) below ∙ sym (slice_get-get_or constraints group (Only 0) below)))

  module _ (clauses : List Clause) (tells : TellsPlaces index [] members constraints clauses) (keep : List Bool) (chosen : NumberSet) (chooses : IsChosen positions keep chosen) where
    -- the clauses of the kept groups hold where the members meet the chosen constraints
    kept_to_chosen : (vars : NumberSet) → MeetsKept clauses keep vars → MeetsAt index (placed [] members vars) chosen
    kept_to_chosen vars meets k constraint asked there =
        let at = (chooses k).0 asked in
        let here : slice_get (constraints_of index) (get_or positions at.0 0) ≡ Some constraint = ap (slice_get (constraints_of index)) at.3 ∙ there in
        (tells.says vars at.0 constraint (sym (stands_at at.0 at.1) ∙ here)).0
        (λ i d below of_group. meets i d below (ap (slice_get keep) of_group ∙ at.2))

    chosen_to_kept : (vars : NumberSet) → MeetsAt index (placed [] members vars) chosen → MeetsKept clauses keep vars
    chosen_to_kept vars meets i d below is_kept =
        let group : ℕ = (get_or clauses i d).group in
        let in_group : group < length constraints = tells.in_groups i d below in
        let inside : group < length positions = omega (arith, in_group, sizes) in
        let position : ℕ = get_or positions group 0 in
        let constraint : Constraint = get_or constraints group (Only 0) in
        let listed : slice_get constraints group ≡ Some constraint = slice_get-get_or constraints group (Only 0) in_group in
        (tells.says vars group constraint listed).1
        (meets position constraint ((chooses position).1 (group, inside, is_kept, refl)) (stands_at group inside ∙ listed)) i d below refl

    module _ (p must : ℕ) (must_inside : must < length members) (must_is : get_or members must 0 ≡ p) where
      -- each set that meets the constraints gives a true set of variables; so where there is none, the chosen constraints admit none
      pub none_true : IsClosed index p (members_of members) → ((vars : NumberSet) → IsTrueSet (length members) clauses keep must vars → ⊥) → AdmitsNone index p chosen
      none_true closed none admits =
          let set : NumberSet = admits.0 in
          let vars : NumberSet = pulled_beside [] members none_of set in
          let same : cut set (members_of members) ≡ placed [] members vars = fun_ext (placed_beside [] members none_of set (λ q never. absurd (false≢true never))) in
          let Meets : NumberSet → Type 0 = λ places. MeetsAt index places chosen in
          none vars (record {
            within = λ var is_in. ltb-true var (length members) ((and_parts (ltb var (length members)) (set (get_or members var 0)) is_in).0);
            has_must = and_from (ltb must (length members)) (set (get_or members must 0)) (lt-ltb must (length members) must_inside) (ap set must_is ∙ admits.1);
            meets = chosen_to_kept vars (subst Meets same (closure_meets index p (members_of members) closed set chosen admits.2));
          })

      pub true_meets : (vars : NumberSet) → IsTrueSet (length members) clauses keep must vars → (placed [] members vars p ≡ true) × MeetsAt index (placed [] members vars) chosen
      true_meets vars is_one = (
        sym (ap (placed [] members vars) must_is) ∙ position_in members vars must must_inside is_one.has_must,
        kept_to_chosen vars is_one.meets,
      )
