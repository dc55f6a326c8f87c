-- Each constraint of a list in a group of its own, one constraint after the other.
use Rattle.std.proofs.Common.{◌≡◌, ℕ, ◌+◌, ◌<◌, true, List, [], ◌++◌, length, get_or, Some, slice_get, All, ◌↔◌, refl, sym, subst, ◌∙◌, inl, inr, arith}
use Rattle.std.proofs.lemmas.Bool.{cases_lt}
use Rattle.std.proofs.lemmas.List.Elements.{All-nil, All-append, All-weaker}
use Rattle.std.proofs.lemmas.Option.{slice_get_within, get_or_from_slice_get}
use Rattle.deb_index.specs.declared.constraint.Constraint.{Constraint}
use Rattle.deb_index.specs.Constraints.{Holds}
use Rattle.number_sets.specs.Sets.{NumberSet}
use Rattle.number_sets.proofs.ListLemmas.{All-front, All-back}
use Rattle.sat_solve.specs.Clauses.{Clause, Clauses, clause_holds}
use Rattle.deb_encode.specs.declared.play.Play.{Play}
use Rattle.deb_encode.specs.Play.{GroupHolds, AddsPlaces, TellsPlaces}
use Rattle.deb_encode.specs.Encoders.{set_of}

-- the first constraints, as many as the count, have their clauses
pub record EncodedTo (play : Play) (constraints : List Constraint) (count : ℕ) (formula : Clauses) : Type 0 where
  pub vars : formula.vars ≡ length play.candidates.now
  pub groups : formula.groups ≡ length constraints
  pub in_groups : All (λ clause. clause.group < count) formula.clauses
  pub says : (vars : NumberSet) (group : ℕ) (constraint : Constraint) → group < count → slice_get constraints group ≡ Some constraint
      → (GroupHolds formula.clauses group vars ↔ Holds play.index.now (set_of play vars) constraint)

pub encoded_none : (play : Play) (constraints : List Constraint) (formula : Clauses) → formula ≡ record { vars = length play.candidates.now; groups = length constraints; clauses = [] } → EncodedTo play constraints 0 formula
encoded_none play constraints formula is_empty =
    subst (EncodedTo play constraints 0) (sym is_empty) (record {
      vars = refl;
      groups = refl;
      in_groups = All-nil (λ clause. clause.group < 0);
      says = λ vars group constraint never. absurd (omega (arith, never));
    })

module _ (play : Play) (constraints : List Constraint) (count : ℕ) (d : Constraint) (before after : Clauses) (so_far : EncodedTo play constraints count before)
    (adds : AddsPlaces count play.forced.now play.candidates.now (λ set. Holds play.index.now set (get_or constraints count d)) before after) (vars : NumberSet) where
  -- no clause of other groups is in a group
  apart : (group : ℕ) (clauses : List Clause) → All (λ clause. clause.group ≡ group → ⊥) clauses → GroupHolds clauses group vars
  apart group clauses other = All-weaker (λ clause. clause.group ≡ group → ⊥) (λ clause. clause.group ≡ group → clause_holds vars clause.literals ≡ true) (λ clause no same. absurd (no same)) clauses other

  old_says : (group : ℕ) (one : Constraint) → group < count → slice_get constraints group ≡ Some one → (GroupHolds (before.clauses ++ adds.more) group vars ↔ Holds play.index.now (set_of play vars) one)
  old_says group one below there = (
    λ holds. (so_far.says vars group one below there).0 (All-front (λ clause. clause.group ≡ group → clause_holds vars clause.literals ≡ true) before.clauses adds.more holds),
    λ holds.
        All-append (λ clause. clause.group ≡ group → clause_holds vars clause.literals ≡ true) before.clauses adds.more ((so_far.says vars group one below there).1 holds)
        (apart group adds.more (All-weaker (λ clause. clause.group ≡ count) (λ clause. clause.group ≡ group → ⊥) (λ clause same other. omega (arith, below, same, other)) adds.more adds.in_group)),
  )

  new_says : GroupHolds (before.clauses ++ adds.more) count vars ↔ Holds play.index.now (set_of play vars) (get_or constraints count d)
  new_says = (
    λ holds.
        (adds.says vars).0
        (λ k e inside. All-back (λ clause. clause.group ≡ count → clause_holds vars clause.literals ≡ true) before.clauses adds.more holds k e inside (adds.in_group k e inside)),
    λ holds.
        All-append (λ clause. clause.group ≡ count → clause_holds vars clause.literals ≡ true) before.clauses adds.more
        (apart count before.clauses (All-weaker (λ clause. clause.group < count) (λ clause. clause.group ≡ count → ⊥) (λ clause below same. omega (arith, below, same)) before.clauses so_far.in_groups))
        (All-weaker (λ clause. clause_holds vars clause.literals ≡ true) (λ clause. clause.group ≡ count → clause_holds vars clause.literals ≡ true) (λ clause held same. held) adds.more ((adds.says vars).1 holds)),
  )

pub encoded_more : (play : Play) (constraints : List Constraint) (count : ℕ) (d : Constraint) (before after formula : Clauses) → formula ≡ after → EncodedTo play constraints count before
    → AddsPlaces count play.forced.now play.candidates.now (λ set. Holds play.index.now set (get_or constraints count d)) before after → EncodedTo play constraints (count + 1) formula
encoded_more play constraints count d before after formula is_after so_far adds =
    let Below : List Clause → Type 0 = λ clauses. All (λ clause. clause.group < count + 1) clauses in
    let Says : List Clause → Type 0 = λ clauses. (vars : NumberSet) (group : ℕ) (constraint : Constraint) → group < count + 1 → slice_get constraints group ≡ Some constraint
    → (GroupHolds clauses group vars ↔ Holds play.index.now (set_of play vars) constraint) in
    subst (EncodedTo play constraints (count + 1)) (sym is_after) (record {
      vars = adds.vars ∙ so_far.vars;
      groups = adds.groups ∙ so_far.groups;
      in_groups = subst Below (sym adds.appended)
          (All-append (λ clause. clause.group < count + 1) before.clauses adds.more
          (All-weaker (λ clause. clause.group < count) (λ clause. clause.group < count + 1) (λ clause below. omega (arith, below)) before.clauses so_far.in_groups)
          (All-weaker (λ clause. clause.group ≡ count) (λ clause. clause.group < count + 1) (λ clause same. omega (arith, same)) adds.more adds.in_group));
      says = subst Says (sym adds.appended) (λ vars group one less there.
          elim (cases_lt group count) [
            | inl below ↦ old_says play constraints count d before after so_far adds vars group one below there
            | inr past ↦
                let last : count ≡ group = omega (arith, past, less) in
                let Of : Constraint → Type 0 = λ c. GroupHolds (before.clauses ++ adds.more) group vars ↔ Holds play.index.now (set_of play vars) c in
                let At : ℕ → Type 0 = λ g. GroupHolds (before.clauses ++ adds.more) g vars ↔ Holds play.index.now (set_of play vars) (get_or constraints g d) in
                subst Of (get_or_from_slice_get constraints group one d there) (subst At last (new_says play constraints count d before after so_far adds vars))
          ]);
    })

pub encoded_whole : (play : Play) (constraints : List Constraint) (count : ℕ) (formula : Clauses) → count ≡ length constraints → EncodedTo play constraints count formula
    → TellsPlaces play.index.now play.forced.now play.candidates.now constraints formula.clauses
encoded_whole play constraints count formula whole all = record {
  in_groups = All-weaker (λ clause. clause.group < count) (λ clause. clause.group < length constraints) (λ clause below. omega (arith, below, whole)) formula.clauses all.in_groups;
  says = λ vars group one there. all.says vars group one (omega (arith, slice_get_within constraints group one there, whole)) there;
}
