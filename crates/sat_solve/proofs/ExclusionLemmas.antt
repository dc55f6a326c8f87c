-- A variable that excludes the others of a list: when a set meets the clauses, and that each of them is one.
use Rattle.std.proofs.Common.{◌≡◌, ℕ, ◌<◌, Bool, true, false, ◌||◌, not, if◌then◌else◌, eqb, List, [], ◌∷◌, map, All, Contains, length, get_or, refl, sym, ap, arith}
use Rattle.std.specs.List.{list_all}
use Rattle.std.proofs.lemmas.Bool.{false≢true, and_parts, and_from}
use Rattle.std.proofs.lemmas.List.Elements.{All-nil, All-cons, All-append}
use Rattle.number_sets.specs.Sets.{NumberSet}
use Rattle.sat_solve.specs.Clauses.{Clause, clause_holds, not_both, exclusions}
use Rattle.sat_solve.specs.declared.clause.Lit.{Lit}
use Rattle.sat_solve.proofs.FlatLemmas.{all_left, all_right, all_flat, contains_flat}

abbrev pair_of : ℕ → ℕ → ℕ → Clause
pair_of group owner other = record { group = group; literals = not_both owner other }

abbrev pairs_with : ℕ → ℕ → ℕ → List Clause
pairs_with group owner other = if eqb other owner then [] else pair_of group owner other ∷ []

all_unless : (P : Clause → Type 0) (clause : Clause) (same : Bool) → (same ≡ false → P clause) → All P (if same then [] else clause ∷ [])
all_unless P clause true holds = All-nil P
all_unless P clause false holds = All-cons P clause [] (holds refl) (All-nil P)

unless_all : (P : Clause → Type 0) (clause : Clause) (same : Bool) → All P (if same then [] else clause ∷ []) → same ≡ false → P clause
unless_all P clause true all is = absurd (false≢true (sym is))
unless_all P clause false all is = all 0 clause (omega arith)

contains_unless : (clause : Clause) (same : Bool) → same ≡ false → Contains (if same then [] else clause ∷ []) clause
contains_unless clause true is = absurd (false≢true (sym is))
contains_unless clause false is = (0, omega arith, refl)

-- all clauses of an exclusion are in its group
pub exclusions_in : (group owner : ℕ) (list : List ℕ) → All (λ clause. clause.group ≡ group) (exclusions group owner list)
exclusions_in group owner list =
    all_flat (λ clause. clause.group ≡ group) (pairs_with group owner) list
    (λ k d inside. all_unless (λ clause. clause.group ≡ group) (pair_of group owner (get_or list k d)) (eqb (get_or list k d) owner) (λ _. refl))

-- each other variable of the list has its clause
pub exclusions_have : (group owner : ℕ) (list : List ℕ) (i d : ℕ) → i < length list → eqb (get_or list i d) owner ≡ false → Contains (exclusions group owner list) (record { group = group; literals = not_both owner (get_or list i d) })
exclusions_have group owner list i d inside other =
    contains_flat (pairs_with group owner) list i d (pair_of group owner (get_or list i d)) inside (contains_unless (pair_of group owner (get_or list i d)) (eqb (get_or list i d) owner) other)

-- a pair holds where its owner is out, or the other one is
owner_out : (set : NumberSet) (owner other : ℕ) → set owner ≡ false → clause_holds set (not_both owner other) ≡ true
owner_out set owner other out = ap (λ b. not b || (not (set other) || false)) out

-- whether it does, where the owner is in, is what is tested of each variable of a list: that it is the owner, or out
pair_held : (a b same : Bool) → (same || not b) ≡ true → same ≡ false → (not a || (not b || false)) ≡ true
pair_held true true true tested other = absurd (false≢true (sym other))
pair_held true true false tested other = tested
pair_held true false same tested other = refl
pair_held false b same tested other = refl

pair_tested : (a b same : Bool) → a ≡ true → (same ≡ false → (not a || (not b || false)) ≡ true) → (same || not b) ≡ true
pair_tested true b true is held = refl
pair_tested true true false is held = held refl
pair_tested true false false is held = refl
pair_tested false b same is held = absurd (false≢true is)

module _ (set : NumberSet) (group owner : ℕ) where
  -- where the owner is out
  pub excluded_out : (list : List ℕ) → set owner ≡ false → All (λ clause. clause_holds set clause.literals ≡ true) (exclusions group owner list)
  excluded_out list out =
      all_flat (λ clause. clause_holds set clause.literals ≡ true) (pairs_with group owner) list
      (λ k d inside. all_unless (λ clause. clause_holds set clause.literals ≡ true) (pair_of group owner (get_or list k d)) (eqb (get_or list k d) owner) (λ _. owner_out set owner (get_or list k d) out))

  -- where no other one of the list is in
  pub excluded_clear : (literals : List Lit) → list_all (λ literal. eqb literal.var owner || not (set literal.var)) literals ≡ true → All (λ clause. clause_holds set clause.literals ≡ true) (exclusions group owner (map (λ literal. literal.var) literals))
  excluded_clear [] clear = All-nil (λ clause. clause_holds set clause.literals ≡ true)
  excluded_clear (literal ∷ rest) clear =
      let parts = and_parts (eqb literal.var owner || not (set literal.var)) (list_all (λ literal. eqb literal.var owner || not (set literal.var)) rest) clear in
      All-append (λ clause. clause_holds set clause.literals ≡ true) (pairs_with group owner literal.var) (exclusions group owner (map (λ literal. literal.var) rest))
      (all_unless (λ clause. clause_holds set clause.literals ≡ true) (pair_of group owner literal.var) (eqb literal.var owner) (pair_held (set owner) (set literal.var) (eqb literal.var owner) parts.0))
      (excluded_clear rest parts.1)

  -- where the owner is in, and the clauses hold
  pub clear_excluded : (literals : List Lit) → set owner ≡ true → All (λ clause. clause_holds set clause.literals ≡ true) (exclusions group owner (map (λ literal. literal.var) literals)) → list_all (λ literal. eqb literal.var owner || not (set literal.var)) literals ≡ true
  clear_excluded [] has all = refl
  clear_excluded (literal ∷ rest) has all =
      and_from (eqb literal.var owner || not (set literal.var)) (list_all (λ literal. eqb literal.var owner || not (set literal.var)) rest)
      (pair_tested (set owner) (set literal.var) (eqb literal.var owner) has
      (unless_all (λ clause. clause_holds set clause.literals ≡ true) (pair_of group owner literal.var) (eqb literal.var owner)
      (all_left (λ clause. clause_holds set clause.literals ≡ true) (pairs_with group owner literal.var) (exclusions group owner (map (λ literal. literal.var) rest)) all)))
      (clear_excluded rest has (all_right (λ clause. clause_holds set clause.literals ≡ true) (pairs_with group owner literal.var) (exclusions group owner (map (λ literal. literal.var) rest)) all))
