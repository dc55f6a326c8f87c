-- Lists of variables that exclude each other, and the places that they stand for.
use Rattle.std.proofs.Common.{◌≡◌, ℕ, ◌+◌, ◌<◌, Bool, true, false, ◌||◌, not, if◌then◌else◌, eqb, List, [], ◌∷◌, ◌++◌, map, take, flat_map, All, length, get_or, Some, slice_get, ◌↔◌, refl, sym, subst, ◌∙◌, ap, inl, inr, arith}
use Rattle.std.specs.List.Sorted.{IsStrictlyIncreasing}
use Rattle.std.proofs.lemmas.Bool.{cases_Bool, false≢true, or_right, eqb-true, eq-eqb, both_ways}
use Rattle.std.proofs.lemmas.List.{get_or-map, get_or_default, length-map}
use Rattle.std.proofs.lemmas.List.Elements.{All-nil, All-cons, All-append, All-map, All-contains}
use Rattle.std.proofs.lemmas.Option.{slice_get_within, get_or_from_slice_get}
use Rattle.sat_solve.specs.declared.clause.Owner.{Owner}
use Rattle.number_sets.specs.Sets.{NumberSet, members_of, positions_of}
use Rattle.sat_solve.specs.Clauses.{Clause, Clauses, clause_holds, not_both, exclusions}
use Rattle.sat_solve.proofs.FlatLemmas.{all_flat, flat_all}
use Rattle.sat_solve.proofs.ExclusionLemmas.{exclusions_in, exclusions_have}
use Rattle.deb_encode.specs.Play.{Adds, placed}
use Rattle.deb_encode.specs.Encoders.{KeepsOut}
use Rattle.deb_encode.specs.Exclusions.{AreNotIn, AreNumbersOf}
use Rattle.deb_index.specs.Constraints.{AreApart}
use Rattle.number_sets.proofs.ListMembers.{members_of_at, at_members_of}
use Rattle.deb_encode.proofs.AddLemmas.{in_push, taken_either, taken_before, taken_last}
use Rattle.number_sets.proofs.MembersLemmas.{pushed_has, pushed_keeps}
use Rattle.number_sets.proofs.PositionsOf.{position_in, group_at, one_group}

-- ---- what the clauses of an owner say

pub pairs_out : (a b : Bool) → a ≡ true → b ≡ true → (not a || (not b || false)) ≡ true → ⊥
pairs_out true true one other holds = false≢true holds
pairs_out true false one other holds = false≢true other
pairs_out false b one other holds = false≢true one

pub pairs_held : (a b : Bool) → (a ≡ true → b ≡ true → ⊥) → (not a || (not b || false)) ≡ true
pairs_held true true apart = absurd (apart refl refl)
pairs_held true false apart = refl
pairs_held false b apart = refl

all_if : (P : Clause → Type 0) (clause : Clause) (same : Bool) → (same ≡ false → P clause) → All P (if same then [] else clause ∷ [])
all_if P clause true holds = All-nil P
all_if P clause false holds = All-cons P clause [] (holds refl) (All-nil P)

in_list : (xs : List ℕ) (k d : ℕ) → k < length xs → members_of xs (get_or xs k d) ≡ true
in_list xs k d inside = ap (members_of xs) (get_or_default xs k d 0 inside) ∙ at_members_of xs k inside

abbrev told_by : List ℕ → Owner → List Clause
told_by list owner = exclusions owner.group owner.var list

abbrev pub owner_of : ℕ → ℕ → Owner
owner_of group var = record { group = group; var = var }

module _ (list : List ℕ) (set : NumberSet) where
  abbrev IsHeld : Clause → Type 0
  IsHeld clause = clause_holds set clause.literals ≡ true

  -- an owner is not in together with another variable of the list
  abbrev pub IsApart : ℕ → Type 0
  IsApart var = (other : ℕ) → members_of list other ≡ true → eqb other var ≡ false → set var ≡ true → set other ≡ true → ⊥

  held_apart : (group var : ℕ) → All IsHeld (exclusions group var list) → IsApart var
  held_apart group var all other is_in differs one also =
      let at = members_of_at list other is_in in
      let Differs : ℕ → Type 0 = λ n. eqb n var ≡ false in
      let clause : Clause = record { group = group; literals = not_both var (get_or list at.0 0) } in
      let held : IsHeld clause = All-contains IsHeld (exclusions group var list) clause all (exclusions_have group var list at.0 0 at.1 (subst Differs (sym at.2) differs)) in
      let Out : ℕ → Type 0 = λ n. (not (set var) || (not (set n) || false)) ≡ true in
      pairs_out (set var) (set other) one also (subst Out at.2 held)

  apart_held : (group var : ℕ) → IsApart var → All IsHeld (exclusions group var list)
  apart_held group var apart =
      all_flat IsHeld (λ other. if eqb other var then [] else record { group = group; literals = not_both var other } ∷ []) list
      (λ k d inside.
      all_if IsHeld (record { group = group; literals = not_both var (get_or list k d) }) (eqb (get_or list k d) var)
      (λ differs. pairs_held (set var) (set (get_or list k d)) (apart (get_or list k d) (in_list list k d inside) differs)))

  -- the clauses of all owners say that each is apart
  held_all : (owners : List Owner) → All IsHeld (flat_map (told_by list) owners) → All (λ owner. IsApart owner.var) owners
  held_all owners all k d inside = held_apart (get_or owners k d).group (get_or owners k d).var (flat_all IsHeld (told_by list) owners all k d inside)

  all_held : (owners : List Owner) → All (λ owner. IsApart owner.var) owners → All IsHeld (flat_map (told_by list) owners)
  all_held owners each = all_flat IsHeld (told_by list) owners (λ k d inside. apart_held (get_or owners k d).group (get_or owners k d).var (each k d inside))

-- none of the variables is in together with another one of the list
abbrev pub HasApart : List ℕ → List ℕ → NumberSet → Type 0
HasApart vars list set = (v w : ℕ) → members_of vars v ≡ true → members_of list w ≡ true → set v ≡ true → set w ≡ true → v ≡ w

one_apart : (vars list : List ℕ) (group : ℕ) (set : NumberSet) → HasApart vars list set → All (λ owner. IsApart list set owner.var) (map (owner_of group) vars)
one_apart vars list group set one =
    All-map (λ (owner : Owner). IsApart list set owner.var) (owner_of group) vars
    (λ k d inside other is_in differs var_in other_in.
    both_ways (eqb other (get_or vars k d)) differs (eq-eqb other (get_or vars k d) (sym (one (get_or vars k d) other (in_list vars k d inside) is_in var_in other_in))))

apart_one : (vars list : List ℕ) (group : ℕ) (set : NumberSet) → All (λ owner. IsApart list set owner.var) (map (owner_of group) vars) → HasApart vars list set
apart_one vars list group set all v w v_in w_in v_set w_set =
    let at = members_of_at vars v v_in in
    let d : Owner = owner_of group 0 in
    let size : at.0 < length (map (owner_of group) vars) = omega (arith, at.1, length-map vars (owner_of group)) in
    let is : get_or (map (owner_of group) vars) at.0 d ≡ owner_of group v = get_or-map (owner_of group) vars at.0 0 d at.1 ∙ ap (owner_of group) at.2 in
    let Apart : Owner → Type 0 = λ owner. IsApart list set owner.var in
    let here : IsApart list set v = subst Apart is (all at.0 d size) in
    elim (cases_Bool (eqb w v)) [
      | inl same ↦ sym (eqb-true w v same)
      | inr differs ↦ absurd (here w w_in differs v_set w_set)
    ]

module _ (group : ℕ) (list : List ℕ) (owners : List Owner) (owners_are : owners ≡ map (owner_of group) list) where
  pub owners_in_group : (limit : ℕ) → group < limit → All (λ (owner : Owner). owner.group < limit) owners
  owners_in_group limit below =
      let Below : List Owner → Type 0 = λ some. All (λ (owner : Owner). owner.group < limit) some in
      subst Below (sym owners_are) (All-map (λ (owner : Owner). owner.group < limit) (owner_of group) list (λ k d inside. below))

  pub owners_below : (count limit : ℕ) → limit ≡ count → All (λ var. var < count) list → All (λ (owner : Owner). owner.var < limit) owners
  owners_below count limit same below =
      let Below : List Owner → Type 0 = λ some. All (λ (owner : Owner). owner.var < limit) some in
      subst Below (sym owners_are) (All-map (λ (owner : Owner). owner.var < limit) (owner_of group) list (λ k d inside. omega (arith, below k d inside, same)))

  -- a list and its owners say that no owner is in with another one of it
  pub apart_adds : (others given : List ℕ) (before after : Clauses) → given ≡ others
      → after ≡ record before { clauses = before.clauses ++ flat_map (λ owner. exclusions owner.group owner.var given) owners } → Adds group (HasApart list others) before after
  apart_adds others given before after given_is after_is =
      let all : List Owner = map (owner_of group) list in
      let is : after ≡ record before { clauses = before.clauses ++ flat_map (told_by others) all } =
      after_is
      ∙ (ap (λ os. record before { clauses = before.clauses ++ flat_map (told_by given) os }) owners_are
      ∙ ap (λ vars. record before { clauses = before.clauses ++ flat_map (told_by vars) all }) given_is) in
      record {
        vars = ap (λ (f : Clauses). f.vars) is;
        groups = ap (λ (f : Clauses). f.groups) is;
        more = flat_map (told_by others) all;
        appended = ap (λ (f : Clauses). f.clauses) is;
        in_group = all_flat (λ clause. clause.group ≡ group) (told_by others) all (All-map (λ (owner : Owner). All (λ clause. clause.group ≡ group) (told_by others owner)) (owner_of group) list (λ k d inside. exclusions_in group (get_or list k d) others));
        says = λ set. (
          λ holds. apart_one list others group set (held_all others set all holds),
          λ one. all_held others set all (one_apart list others group set one),
        );
      }

-- ---- the places of the variables

module _ (forced candidates places list : List ℕ) (none_in : AreNotIn forced places) (are : AreNumbersOf candidates places list) where
  -- a place of the list that is in has a variable that is
  var_of : (vars : NumberSet) (q : ℕ) → members_of places q ≡ true → placed forced candidates vars q ≡ true → (v : ℕ) × (members_of list v ≡ true) × (vars v ≡ true) × (get_or candidates v 0 ≡ q)
  var_of vars q there is_in =
      let of_vars : positions_of candidates vars q ≡ true = ap (λ b. b || positions_of candidates vars q) (sym (none_in q there)) ∙ is_in in
      let at = group_at candidates vars q of_vars in
      (at.0, are.all at.0 at.1 (ap (members_of places) at.3 ∙ there), at.2, at.3)

  listed_below : (v : ℕ) → members_of list v ≡ true → v < length candidates
  listed_below v listed = (let at = members_of_at list v listed in omega (arith, are.below at.0 0 at.1, at.2))

  place_of : (vars : NumberSet) (v : ℕ) → members_of list v ≡ true → vars v ≡ true → placed forced candidates vars (get_or candidates v 0) ≡ true
  place_of vars v listed is_in =
      or_right (members_of forced (get_or candidates v 0)) (positions_of candidates vars (get_or candidates v 0)) (position_in candidates vars v (listed_below v listed) is_in)

module _ (forced candidates owners places vars list : List ℕ) (rising : IsStrictlyIncreasing candidates) (no_owner_in : AreNotIn forced owners)
    (none_in : AreNotIn forced places) (of_owners : AreNumbersOf candidates owners vars) (of_places : AreNumbersOf candidates places list) where
  pub apart_placed : (set : NumberSet) → (HasApart vars list set ↔ AreApart owners places (placed forced candidates set))
  apart_placed set = (
    λ one q r q_there r_there q_in r_in.
        let v = var_of forced candidates owners vars no_owner_in of_owners set q q_there q_in in
        let w = var_of forced candidates places list none_in of_places set r r_there r_in in
        sym v.3 ∙ (ap (λ n. get_or candidates n 0) (one v.0 w.0 v.1 w.1 v.2 w.2) ∙ w.3),
    λ one v w v_there w_there v_in w_in.
        one_group candidates rising v w (listed_below forced candidates owners vars no_owner_in of_owners v v_there) (listed_below forced candidates places list none_in of_places w w_there)
        (one (get_or candidates v 0) (get_or candidates w 0) (of_owners.among v v_there) (of_places.among w w_there)
        (place_of forced candidates owners vars no_owner_in of_owners set v v_there v_in) (place_of forced candidates places list none_in of_places set w w_there w_in)),
  )

-- ---- places of which some are in anyway

module _ (owners places : List ℕ) (place : ℕ) (set : NumberSet) (is_in : set place ≡ true) where
  pub owner_alone : members_of owners place ≡ true → members_of places place ≡ false → (KeepsOut place places set ↔ AreApart owners places set)
  owner_alone owns lacks = (
    λ out q r q_there r_there q_in r_in. absurd (both_ways (members_of places place) lacks (ap (members_of places) (sym (out r r_there is_in r_in)) ∙ r_there)),
    λ apart r r_there has r_in. sym (apart place r owns r_there is_in r_in),
  )

  pub owner_both : members_of owners place ≡ true → members_of places place ≡ true → ((KeepsOut place places set × KeepsOut place owners set) ↔ AreApart owners places set)
  owner_both owns there = (
    λ both q r q_there r_there q_in r_in. both.1 q q_there is_in q_in ∙ sym (both.0 r r_there is_in r_in),
    λ apart. (λ r r_there has r_in. sym (apart place r owns r_there is_in r_in), λ q q_there has q_in. apart q place q_there there q_in is_in),
  )

  pub place_alone : members_of places place ≡ true → ((q : ℕ) → members_of owners q ≡ true → q ≡ place → ⊥) → (KeepsOut place owners set ↔ AreApart owners places set)
  place_alone there no_owner = (
    λ out q r q_there r_there q_in r_in. absurd (no_owner q q_there (out q q_there is_in q_in)),
    λ apart q q_there has q_in. apart q place q_there there q_in is_in,
  )

-- ---- the variables of places, one place after the other

pub numbers_none : (candidates list : List ℕ) → list ≡ [] → AreNumbersOf candidates [] list
numbers_none candidates list empty =
    let For : List ℕ → Type 0 = λ some. AreNumbersOf candidates [] some in
    subst For (sym empty) (record {
      below = All-nil (λ number. number < length candidates);
      among = λ number never. absurd (false≢true never);
      all = λ number below never. absurd (false≢true never);
    })

module _ (candidates places : List ℕ) (i : ℕ) (inside : i < length places) where
  pub numbers_more : IsStrictlyIncreasing candidates → (before after : List ℕ) (var : ℕ) → slice_get candidates var ≡ Some (get_or places i 0) → after ≡ before ++ var ∷ []
      → AreNumbersOf candidates (take i places) before → AreNumbersOf candidates (take (i + 1) places) after
  numbers_more rising before after var there after_is so_far =
      let x : ℕ = get_or places i 0 in
      let var_inside : var < length candidates = slice_get_within candidates var x there in
      let var_is : get_or candidates var 0 ≡ x = get_or_from_slice_get candidates var x 0 there in
      let For : List ℕ → Type 0 = λ list. AreNumbersOf candidates (take (i + 1) places) list in
      subst For (sym after_is) (record {
        below = All-append (λ number. number < length candidates) before (var ∷ []) so_far.below (All-cons (λ number. number < length candidates) var [] var_inside (All-nil (λ number. number < length candidates)));
        among = λ number is_in.
            elim (in_push before var number is_in) [
              | inl old ↦ taken_before places i inside (get_or candidates number 0) (so_far.among number old)
              | inr last ↦
                  let same : get_or candidates number 0 ≡ x = ap (λ n. get_or candidates n 0) (sym last) ∙ var_is in
                  ap (members_of (take (i + 1) places)) same ∙ taken_last places i inside
            ];
        all = λ number within is_in.
            elim (taken_either places i inside (get_or candidates number 0) is_in) [
              | inl old ↦ pushed_keeps before var number (so_far.all number within old)
              | inr last ↦
                  let same : var ≡ number = one_group candidates rising var number var_inside within (var_is ∙ last) in
                  ap (members_of (before ++ var ∷ [])) (sym same) ∙ pushed_has before var
            ];
      })

  pub numbers_passed : (list : List ℕ) → members_of candidates (get_or places i 0) ≡ false → AreNumbersOf candidates (take i places) list → AreNumbersOf candidates (take (i + 1) places) list
  numbers_passed list lacks so_far = record {
    below = so_far.below;
    among = λ number is_in. taken_before places i inside (get_or candidates number 0) (so_far.among number is_in);
    all = λ number within is_in.
        elim (taken_either places i inside (get_or candidates number 0) is_in) [
          | inl old ↦ so_far.all number within old
          | inr last ↦ absurd (both_ways (members_of candidates (get_or places i 0)) lacks (ap (members_of candidates) last ∙ at_members_of candidates number within))
        ];
  }
