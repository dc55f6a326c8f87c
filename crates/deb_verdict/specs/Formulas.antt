-- Formulas over the constraints of an index and the places in play, the positions whose groups are kept, and what is known of those.
use Rattle.std.specs.Prelude.{◌≡◌, ℕ, ◌<◌, ◌↔◌, true, Bool, List, Some, length, map, slice_get, slice_index, ◌⊎◌, All, Contains, ◌==◌, ◌&&◌, not}
use Rattle.deb_index.specs.Packages.{IndexView, needs_at}
use Rattle.number_sets.specs.Sets.{NumberSet, members_of, IsWithin}
use Rattle.sat_solve.specs.Clauses.{IsTrueSet, Clauses}
use Rattle.deb_health.specs.Health.{AdmitsNone, IsHealthy}
use Rattle.deb_verdict.specs.declared.core_formula.CoreFormula.{CoreFormula}
use Rattle.deb_index.specs.declared.constraint.Constraint.TheVariants.{Need}
use Rattle.deb_index.specs.Constraints.{answers, IsOfIndex, constraints_of}
use Rattle.deb_encode.specs.Play.{places_in_play, placed, AllHold}
use Rattle.deb_verdict.specs.declared.gather.UnmetNeed.{UnmetNeed}
use Rattle.std.specs.List.Sorted.{IsStrictlyIncreasing}
use Rattle.core_extract.specs.Reduction.{left}
use Rattle.deb_health.specs.Causes.{without}
use Rattle.deb_verdict.specs.declared.known.Known.{Known}
use Rattle.deb_index.specs.declared.constraint.Constraint.{Constraint}

-- the positions whose groups are kept
abbrev pub IsChosen : List ℕ → List Bool → NumberSet → Type 0
IsChosen positions keep chosen =
    (k : ℕ) → ((chosen k ≡ true) ↔ ((group : ℕ) × (group < length positions) × (slice_get keep group ≡ Some true) × (slice_index positions group ≡ k)))

-- a formula of which each solve says whether the constraints of its kept groups admit a set with p
pub record Tells (index : IndexView) (p : ℕ) (c : CoreFormula) : Type 0 where
  pub refuted : (marks : List Bool) (used : NumberSet) → IsChosen c.positions.items marks used
      → ((set : NumberSet) → IsTrueSet c.formula.vars c.formula.clauses marks c.must set → ⊥) → AdmitsNone index p used
  pub admitted : (part set : NumberSet) → IsTrueSet c.formula.vars c.formula.clauses (map part c.positions.items) c.must set → AdmitsNone index p part → ⊥

-- a formula of one group over the candidates, whose clauses hold in just the sets of variables whose places are healthy
pub record IsDescription (index : IndexView) (forced candidates : List ℕ) (formula : Clauses) : Type 0 where
  pub vars : formula.vars ≡ length candidates
  pub groups : formula.groups ≡ 1
  pub in_group : All (λ clause. clause.group ≡ 0) formula.clauses
  pub describes : (vars : NumberSet) → (AllHold formula.clauses vars ↔ IsHealthy index (placed forced candidates vars))

-- the list has needs of the index, and of the places in play all that no forced place answers
abbrev pub AreUnmet : IndexView → List ℕ → List ℕ → List UnmetNeed → Type 0
AreUnmet index forced candidates unmet =
    All (λ need. IsOfIndex index (Need need.place need.number)) unmet
    × ((place j : ℕ) → j < length (needs_at index place) → places_in_play (members_of forced) candidates place ≡ true
    → ((q : ℕ) × (members_of forced q ≡ true) × (answers index place j q ≡ true)) ⊎ Contains unmet (record { place = place; number = j }))

-- without the constraint at any one of these positions, the others of all admit a set with p
abbrev pub AreNeeded : IndexView → ℕ → NumberSet → List ℕ → Type 0
AreNeeded index p all positions = (u : ℕ) → members_of positions u ≡ true → AdmitsNone index p (λ k. all k && not (k == u)) → ⊥

-- each refutation needs these, out of those that are settled and all from a position on, but for those that are taken out
pub record AreKnown (index : IndexView) (p : ℕ) (out : NumberSet) (known : Known) : Type 0 where
  pub rising : IsStrictlyIncreasing known.needed.items
  pub needed : AreNeeded index p (without out (left (members_of known.settled.items) known.from)) known.needed.items

-- positions of constraints came to a list, among them those of all constraints that are asked for
pub record Lists (index : IndexView) (IsAsked : Constraint → Type 0) (before after : List ℕ) : Type 0 where
  pub has_old : IsWithin (members_of before) (members_of after)
  pub only : (k : ℕ) → members_of after k ≡ true → (members_of before k ≡ true) ⊎ (k < length (constraints_of index))
  pub all : (k : ℕ) (constraint : Constraint) → slice_get (constraints_of index) k ≡ Some constraint → IsAsked constraint → members_of after k ≡ true
