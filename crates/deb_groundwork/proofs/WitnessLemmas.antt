-- Sets that are seen to meet a part of the constraints.
use Rattle.std.proofs.Common.{◌≡◌, ℕ, ◌+◌, ◌<◌, ◌≤◌, refl, Bool, true, false, not, List, length, get_or, Option, Some, None, slice_get, sym, subst, ◌∙◌, ap, arith}
use Rattle.std.specs.Prelude.{is_some, IfNone}
use Rattle.std.specs.List.{list_any}
use Rattle.std.proofs.lemmas.Bool.{false≢true}
use Rattle.std.proofs.lemmas.Option.{slice_get-get_or}
use Rattle.deb_index.specs.declared.constraint.Constraint.{Constraint}
use Rattle.deb_index.specs.declared.constraint.Constraint.TheVariants.{Essential, Need, Apart, Only}
use Rattle.deb_index.specs.Packages.{IndexView, package_at, names, name_at, needs_at, places_of, essential_names, apart_at}
use Rattle.deb_index.specs.Links.{first_position}
use Rattle.deb_index.specs.Meets.{satisfiers}
use Rattle.deb_index.specs.Constraints.{Holds, IsOfIndex, constraints_of}
use Rattle.deb_index.proofs.ConstraintLemmas.{constraints-within}
use Rattle.deb_index.proofs.PositionLemmas.{one_position, essential_position, need-place}
use Rattle.number_sets.specs.Sets.{NumberSet, members_of}
use Rattle.deb_health.specs.Health.{MeetsAt}
use Rattle.deb_groundwork.specs.Groundwork.{IsEssentialRow}
use Rattle.deb_groundwork.specs.Parts.{HasNoEarlier, positions_in, IsAsked, MeetsAsked, MeetsAskedOf, StandsOnce}
use Rattle.deb_groundwork.specs.declared.part.Part.{Part}
use Rattle.number_sets.proofs.ListMembers.{members_of_at, any_member, contains_member}
use Rattle.deb_groundwork.proofs.Healthy.{only_says, name_is}
use Rattle.deb_index.proofs.IndexFacts.{All-at, IsRight, all_right, member_named, member_satisfiers}
use Rattle.deb_groundwork.proofs.Names.{one_number}

-- what is said where nothing was found, and nothing was
pub if_none : (P : Type 0) (found : Option ℕ) (none : Bool) → is_some found ≡ not none → none ≡ true → IfNone found P → P
if_none P None none said holds it = it
if_none P (Some q) none said holds it = absurd (false≢true (sym (said ∙ ap not holds)))

-- what each number of a list has, up to its end, each member has
pub of_members : (P : ℕ → Type 0) (xs : List ℕ) (count : ℕ) → length xs ≤ count → ((k : ℕ) → k < count → P (get_or xs k 0)) → (q : ℕ) → members_of xs q ≡ true → P q
of_members P xs count past each q is_in =
    let at = members_of_at xs q is_in in
    subst P at.2 (each at.0 (omega (arith, past, at.1)))

-- ---- what a set has

module _ (index : IndexView) (set : NumberSet) where
  pub essential_held : (position number : ℕ) (row : List ℕ) → IsEssentialRow index position row → slice_get (essential_names index) position ≡ Some number → list_any set row ≡ true
      → Holds index set (Essential number)
  essential_held position number row named at holds =
      let found = any_member set row holds in
      let same : named.name ≡ number = cc (named.at, at) in
      (found.0, found.1, sym (member_named index number found.0) ∙ (ap (λ n. members_of (places_of index (name_at index n)) found.0) (sym same) ∙ (sym (ap (λ list. members_of list found.0) named.is) ∙ found.2)))

  pub apart_held : (place j : ℕ) (row : List ℕ) → row ≡ satisfiers index (apart_at index place j) → ((q : ℕ) → members_of row q ≡ true → set q ≡ true → q ≡ place) → Holds index set (Apart place j)
  apart_held place j row row_is only has q is_in hit =
      only q (ap (λ list. members_of list q) row_is ∙ (member_satisfiers index (apart_at index place j) q ∙ hit)) is_in

-- ---- what is asked of it

-- a need stands as far behind the first one of its package as its number says
pub need_stands : (index : IndexView) (place number at : ℕ) → place < length index.packages → number < length (needs_at index place) → slice_get (constraints_of index) at ≡ Some (Need place number)
    → at ≡ first_position index place + number
need_stands index place number at within less there =
    let behind = first_position index place + number in
    one_position index at behind (Need place number) there (need-place index place number behind within less refl)

module _ (part : Part) (set : NumberSet) where
  -- nothing is asked where the constraint stands at no position of the part
  pub unasked : (constraint : Constraint) (at : ℕ) (has : Bool) → slice_get (constraints_of part.index.now) at ≡ Some constraint → has ≡ positions_in part at → has ≡ false → MeetsAsked part set constraint
  unasked constraint at has there has_is lacks asked =
      absurd (false≢true (sym lacks ∙ (has_is ∙ (ap (positions_in part) (one_position part.index.now at asked.0 constraint there asked.2) ∙ asked.1))))

  pub unasked_essential : (at number : ℕ) (has : Bool) → slice_get (essential_names part.index.now) at ≡ Some number → has ≡ positions_in part at → has ≡ false → MeetsAsked part set (Essential number)
  unasked_essential at number has there = unasked (Essential number) at has (essential_position part.index.now at number there)

  module _ (place number : ℕ) (within : number < length (names part.index.now)) (is : name_at part.index.now number ≡ (package_at part.index.now place).name) where
    pub once_unasked : (at : ℕ) (has : Bool) → slice_get (constraints_of part.index.now) at ≡ Some (Only number) → has ≡ positions_in part at → has ≡ false → StandsOnce part set place
    once_unasked at has there has_is lacks =
        (number, within, is, λ asked. absurd (false≢true (sym lacks ∙ (has_is ∙ (ap (positions_in part) (one_position part.index.now at asked.0 (Only number) there asked.2) ∙ asked.1)))))

    pub once_held : HasNoEarlier part.index.now set place → StandsOnce part set place
    once_held none = (number, within, is, λ asked. none)

  -- ---- the whole part

  pub essentials_held : (count : ℕ) → length (essential_names part.index.now) ≤ count
      → ((k : ℕ) → k < count → (number : ℕ) → slice_get (essential_names part.index.now) k ≡ Some number → MeetsAsked part set (Essential number))
      → (number : ℕ) → MeetsAsked part set (Essential number)
  essentials_held count past each number asked =
      let names = essential_names part.index.now in
      let listed : members_of names number ≡ true =
      contains_member names number (All-at (IsRight part.index.now) (constraints_of part.index.now) asked.0 (Essential number) (all_right part.index.now) asked.2) in
      let at = members_of_at names number listed in
      each at.0 (omega (arith, past, at.1)) number (slice_get-get_or names at.0 0 at.1 ∙ ap Some at.2) asked

  pub only_held : ((q : ℕ) → set q ≡ true → StandsOnce part set q) → (number : ℕ) → number < length (names part.index.now) → MeetsAsked part set (Only number)
  only_held each number within asked =
      (only_says part.index.now set number).0 (λ q is_place is_in.
      let once = each q is_in in
      let named : name_at part.index.now number ≡ (package_at part.index.now q).name = name_is part.index.now q number (sym (member_named part.index.now number q) ∙ is_place) in
      let same : number ≡ once.0 = one_number part.index.now number once.0 within once.1 (named ∙ sym once.2) in
      let Asked : ℕ → Type 0 = λ n. IsAsked part (Only n) in
      once.3 (subst Asked same asked) is_in)

  pub part_held : ((number : ℕ) → MeetsAsked part set (Essential number)) → ((q : ℕ) → set q ≡ true → MeetsAskedOf part set q) → MeetsAt part.index.now set (positions_in part)
  part_held essentials each k constraint has there = by constraint there (All-at (IsOfIndex part.index.now) (constraints_of part.index.now) k constraint (constraints-within part.index.now) there)
    where
      by : (c : Constraint) → slice_get (constraints_of part.index.now) k ≡ Some c → IsOfIndex part.index.now c → Holds part.index.now set c
      by (Essential number) at of_index = essentials number (k, has, at)
      by (Need place j) at of_index = λ is_in. (each place is_in).needs j of_index.1 (k, has, at) is_in
      by (Apart place j) at of_index = λ is_in. (each place is_in).aparts j of_index.1 (k, has, at) is_in
      by (Only number) at of_index = only_held (λ q is_in. (each q is_in).once) number of_index (k, has, at)
