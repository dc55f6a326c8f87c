-- Clauses that hold where a place is in, or out; read off the list of those that are in and the list of those that have variables.
use Rattle.std.proofs.Common.{◌≡◌, ℕ, ◌<◌, Bool, true, false, ◌||◌, not, if◌then◌else◌, List, [], ◌∷◌, ◌++◌, length, get_or, Some, slice_get, refl, sym, subst, ◌∙◌, ap}
use Rattle.std.specs.List.Sorted.{IsStrictlyIncreasing}
use Rattle.std.proofs.lemmas.Bool.{both_ways, false_from_ne_true, or_left, or_right}
use Rattle.std.proofs.lemmas.Option.{slice_get_within, get_or_from_slice_get}
use Rattle.std.proofs.lemmas.List.Elements.{All-push}
use Rattle.std.proofs.lemmas.List.Folds.{list_any-append}
use Rattle.sat_solve.specs.declared.clause.Lit.{Lit}
use Rattle.sat_solve.specs.Clauses.{clause_holds, literal_holds}
use Rattle.number_sets.specs.Sets.{NumberSet, members_of, positions_of}
use Rattle.deb_encode.specs.Play.{placed}
use Rattle.deb_encode.specs.Exclusions.{Widens}
use Rattle.number_sets.proofs.ListLemmas.{or_false}
use Rattle.number_sets.proofs.ListMembers.{at_members_of}
use Rattle.number_sets.proofs.PositionsOf.{group_at, same_position}

placed_free : (forced candidates : List ℕ) (vars : NumberSet) (place : ℕ) → members_of forced place ≡ false → placed forced candidates vars place ≡ positions_of candidates vars place
placed_free forced candidates vars place out = ap (λ b. b || positions_of candidates vars place) out

-- a place that is not in, and is a member, is in where its variable is
placed_variable : (forced candidates : List ℕ) → IsStrictlyIncreasing candidates → (place number : ℕ) → members_of forced place ≡ false → slice_get candidates number ≡ Some place
    → (vars : NumberSet) → placed forced candidates vars place ≡ vars number
placed_variable forced candidates rising place number out there vars =
    let inside : number < length candidates = slice_get_within candidates number place there in
    let here : get_or candidates number 0 ≡ place = get_or_from_slice_get candidates number place 0 there in
    placed_free forced candidates vars place out ∙ (ap (positions_of candidates vars) (sym here) ∙ same_position candidates rising vars number inside)

-- one that is neither is in no set
pub placed_out : (forced candidates : List ℕ) (place : ℕ) → members_of forced place ≡ false → members_of candidates place ≡ false → (vars : NumberSet) → placed forced candidates vars place ≡ false
placed_out forced candidates place out free vars =
    placed_free forced candidates vars place out
    ∙ false_from_ne_true (positions_of candidates vars place) (λ is_in.
    let at = group_at candidates vars place is_in in
    both_ways (members_of candidates place) free (ap (members_of candidates) (sym at.3) ∙ at_members_of candidates at.0 at.1))

settled : (anyway held said : Bool) → said ≡ anyway → (anyway || held) ≡ (held || said)
settled true held said same = sym (or_right held said same)
settled false held said same = sym (ap (λ b. held || b) same ∙ or_false held)

module _ (forced candidates : List ℕ) (place : ℕ) (positive : Bool) (before : List Lit) where
  abbrev WidensHere : List Lit → Bool → Type 0
  WidensHere after anyway = Widens (λ vars. if positive then placed forced candidates vars place else not (placed forced candidates vars place)) (length candidates) before after anyway

  known : (there anyway : Bool) → ((vars : NumberSet) → placed forced candidates vars place ≡ there) → (if positive then there else not there) ≡ anyway → WidensHere before anyway
  known there anyway stands is = record {
    in_range = λ all. all;
    says = λ vars. settled anyway (clause_holds vars before) _ (ap (λ b. if positive then b else not b) (stands vars) ∙ is);
  }

  pub widens_in : members_of forced place ≡ true → WidensHere before positive
  widens_in is_in = known true positive (λ vars. or_left (members_of forced place) (positions_of candidates vars place) is_in) (same positive)
    where
      same : (b : Bool) → (if b then true else false) ≡ b
      same true = refl
      same false = refl

  pub widens_out : members_of forced place ≡ false → members_of candidates place ≡ false → WidensHere before (not positive)
  widens_out out free = known false (not positive) (placed_out forced candidates place out free) (same positive)
    where
      same : (b : Bool) → (if b then false else true) ≡ not b
      same true = refl
      same false = refl

  pub widens_var : IsStrictlyIncreasing candidates → (number : ℕ) → members_of forced place ≡ false → slice_get candidates number ≡ Some place
      → (after : List Lit) → after ≡ before ++ record { var = number; positive = positive } ∷ [] → WidensHere after false
  widens_var rising number out there after after_is =
      let lit : Lit = record { var = number; positive = positive } in
      let To : List Lit → Type 0 = λ list. WidensHere list false in
      subst To (sym after_is) (record {
        in_range = λ all. All-push (λ (literal : Lit). literal.var < length candidates) before lit all (slice_get_within candidates number place there);
        says = λ vars.
            list_any-append (literal_holds vars) before (lit ∷ [])
            ∙ ap (λ b. clause_holds vars before || b) (or_false (literal_holds vars lit) ∙ ap (λ b. if positive then b else not b) (sym (placed_variable forced candidates rising place number out there vars)));
      })
