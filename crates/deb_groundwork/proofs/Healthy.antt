-- Healthy sets, told place by place.
use Rattle.std.proofs.Common.{◌≡◌, ℕ, suc, ◌<◌, Bool, true, false, ◌||◌, not, List, [], ◌∷◌, length, get_or, map, filter, Some, slice_get, ◌↔◌, refl, sym, subst, ◌∙◌, ap, inl, inr, arith}
use Rattle.std.specs.List.{list_any}
use Rattle.std.specs.Option.{option_map_or}
use Rattle.std.specs.Str.{bytes_eq}
use Rattle.std.proofs.lemmas.Bool.{cases_order, false≢true, or_cases, or_left, or_right, not_from_false}
use Rattle.std.proofs.lemmas.List.{get_or-map, length-map}
use Rattle.std.proofs.lemmas.List.Folds.{list_any_at}
use Rattle.std.proofs.lemmas.Option.{slice_get-get_or}
use Rattle.deb_index.specs.declared.constraint.Constraint.{Constraint}
use Rattle.deb_index.specs.declared.constraint.Constraint.TheVariants.{Essential, Need, Apart, Only}
use Rattle.deb_index.specs.Packages.{IndexView, PackageView, first_of_each, no_package, package_at, is_named, names, name_at, places_of, essential_names, needs_at, aparts_at}
use Rattle.deb_index.specs.Constraints.{Holds, IsOfIndex, constraints_of, has_name, HasOneOf, HasOneVersion}
use Rattle.deb_index.proofs.FirstLemmas.{same-name, name-itself, names-turned, any-filter}
use Rattle.number_sets.specs.Sets.{NumberSet, members_of}
use Rattle.deb_health.specs.Health.{IsHealthy}
use Rattle.deb_groundwork.specs.Parts.{HasNoEarlier}
use Rattle.number_sets.proofs.ListMembers.{members_of_at, contains_member}
use Rattle.deb_index.proofs.ConstraintLemmas.{constraints-within}
use Rattle.deb_index.proofs.PositionLemmas.{apart-place, essential_position, need-place, only-place}
use Rattle.deb_index.proofs.IndexFacts.{All-at, IsRight, all_right, member_named, named_is_place, only_says_once}

-- ---- what a set meets of all that the package at a place asks for

-- the set meets each need of the package at a place
abbrev pub MeetsNeeds : IndexView → NumberSet → ℕ → Type 0
MeetsNeeds index set place = (j : ℕ) → j < length (needs_at index place) → Holds index set (Need place j)

-- the set has nothing that an entry of the package at a place hits
abbrev pub MeetsEntries : IndexView → NumberSet → ℕ → Type 0
MeetsEntries index set place = (j : ℕ) → j < length (aparts_at index place) → Holds index set (Apart place j)

-- the set has nothing that an entry of the package at a place hits, and one package of its name at most
pub record MeetsConflicts (index : IndexView) (set : NumberSet) (place : ℕ) : Type 0 where
  pub entries : MeetsEntries index set place
  pub once : HasOneVersion index set place

-- the set meets all that the package at a place asks for, and has one package of its name at most
pub record MeetsPlace (index : IndexView) (set : NumberSet) (place : ℕ) : Type 0 where
  pub needs : MeetsNeeds index set place
  pub conflicts : MeetsConflicts index set place

-- ---- lists

any_at : {A : Type 0} (test : A → Bool) (d : A) (xs : List A) → list_any test xs ≡ true → (k : ℕ) × (k < length xs) × (test (get_or xs k d) ≡ true)
any_at test d [] holds = absurd (false≢true holds)
any_at test d (x ∷ xs) holds =
    elim (or_cases (test x) (list_any test xs) holds) [
      | inl here ↦ (0, omega arith, here)
      | inr later ↦ let at = any_at test d xs later in (suc at.0, omega (arith, at.1), at.2)
    ]

-- a name of the list is one of the distinct names
first_has : (name : List ℕ) (xs : List (List ℕ)) → list_any (bytes_eq name) xs ≡ true → list_any (bytes_eq name) (first_of_each bytes_eq xs) ≡ true
unfolding first_of_each
first_has name [] holds = absurd (false≢true holds)
first_has name (x ∷ xs) holds = by (bytes_eq name x) refl (first_has name xs)
  where
    by : (t : Bool) → bytes_eq name x ≡ t → (list_any (bytes_eq name) xs ≡ true → list_any (bytes_eq name) (first_of_each bytes_eq xs) ≡ true)
        → (bytes_eq name x || list_any (bytes_eq name) (filter (λ y. not (bytes_eq x y)) (first_of_each bytes_eq xs))) ≡ true
    by true e later = or_left (bytes_eq name x) (list_any (bytes_eq name) (filter (λ y. not (bytes_eq x y)) (first_of_each bytes_eq xs))) e
    by false e later =
        or_right (bytes_eq name x) (list_any (bytes_eq name) (filter (λ y. not (bytes_eq x y)) (first_of_each bytes_eq xs)))
        (any-filter (bytes_eq name) (λ y. not (bytes_eq x y))
        (λ z same. not_from_false (bytes_eq x z) (ap (bytes_eq x) (sym (same-name name z same)) ∙ (names-turned x name ∙ e)))
        (first_of_each bytes_eq xs)
        ∙ later (ap (λ b. b || list_any (bytes_eq name) xs) (sym e) ∙ holds))

-- ---- names

module _ (index : IndexView) where
  -- each package's name has a number
  pub numbered : (p : ℕ) → p < length index.packages → (number : ℕ) × (number < length (names index)) × (name_at index number ≡ (package_at index p).name)
  numbered p inside =
      let name_of : PackageView → List ℕ = λ item. item.name in
      let name : List ℕ = (package_at index p).name in
      let all : List (List ℕ) = map name_of index.packages in
      let inside_too : p < length all = omega (arith, length-map index.packages name_of) in
      let here : get_or all p [] ≡ name = get_or-map name_of index.packages p no_package [] inside in
      let at = any_at (bytes_eq name) [] (names index) (first_has name all (list_any_at (bytes_eq name) all p [] inside_too (ap (bytes_eq name) here ∙ name-itself name))) in
      (at.0, at.1, sym (same-name name (name_at index at.0) at.2))

  -- the package at a place has the name that its place is found under
  pub name_is : (q number : ℕ) → has_name index q number ≡ true → name_at index number ≡ (package_at index q).name
  name_is q number named =
      let inside : q < length index.packages = named_is_place index q number named in
      same-name (name_at index number) (package_at index q).name (sym (ap (λ there. option_map_or (is_named (name_at index number)) there false) (slice_get-get_or index.packages q no_package inside)) ∙ named)

  has_version : (number p q : ℕ) → name_at index number ≡ (package_at index p).name → members_of (places_of index (package_at index p).name) q ≡ has_name index q number
  has_version number p q same = ap (λ name. members_of (places_of index name) q) (sym same) ∙ member_named index number q

  module _ (set : NumberSet) where
    no_two : (number q r : ℕ) → has_name index q number ≡ true → has_name index r number ≡ true → set q ≡ true → set r ≡ true → HasNoEarlier index set r → q < r → ⊥
    no_two number q r named also there is_too alone less = alone is_too q less (has_version number r q (name_is r number also) ∙ named) there

    -- a name stands once where none of its places has an earlier one with it
    pub only_says : (number : ℕ) → ((q : ℕ) → members_of (places_of index (name_at index number)) q ≡ true → HasNoEarlier index set q) ↔ Holds index set (Only number)
    only_says number = (
      λ all q r there is_too named also.
          elim (cases_order q r) [
            | inl same ↦ same
            | inr apart ↦ elim apart [
              | inl less ↦ absurd (no_two number q r named also there is_too (all r (member_named index number r ∙ also)) less)
              | inr more ↦ absurd (no_two number r q also named is_too there (all q (member_named index number q ∙ named)) more)
            ]
          ],
      λ holds q is_place there r less is_version is_too.
          let named : has_name index q number ≡ true = sym (member_named index number q) ∙ is_place in
          let also : has_name index r number ≡ true = sym (has_version number q r (name_is q number named)) ∙ is_version in
          let same : r ≡ q = holds r q is_too there also named in
          omega arith,
    )

    once_from_only : ((number : ℕ) → number < length (names index) → Holds index set (Only number)) → (p : ℕ) → p < length index.packages → HasOneVersion index set p
    once_from_only all p inside =
        let at = numbered p inside in
        let Once : List ℕ → Type 0 = λ name. HasOneOf (places_of index name) set in
        subst Once at.2 (only_says_once index at.0 set (all at.0 at.1))

    only_from_once : (number : ℕ) → ((q : ℕ) → set q ≡ true → MeetsPlace index set q) → Holds index set (Only number)
    only_from_once number each q r is_there is_too named also =
        let name : name_at index number ≡ (package_at index q).name = name_is q number named in
        (each q is_there).conflicts.once q r (has_version number q q name ∙ named) (has_version number q r name ∙ also) is_there is_too

    -- ---- the whole list

    pub healthy_parts : IsHealthy index set
        → ((number : ℕ) → members_of (essential_names index) number ≡ true → Holds index set (Essential number)) × ((p : ℕ) → p < length index.packages → MeetsPlace index set p)
    healthy_parts healthy =
        let meets : (k : ℕ) (c : Constraint) → slice_get (constraints_of index) k ≡ Some c → Holds index set c = λ k c there. All-at (Holds index set) (constraints_of index) k c healthy there in (
          λ number is_in.
              let at = members_of_at (essential_names index) number is_in in
              meets at.0 (Essential number) (essential_position index at.0 number (slice_get-get_or (essential_names index) at.0 0 at.1 ∙ ap Some at.2)),
          λ p inside. record {
            needs = λ j less. meets _ (Need p j) (need-place index p j _ inside less refl);
            conflicts = record {
              entries = λ j less. meets _ (Apart p j) (apart-place index p j _ inside less refl);
              once = once_from_only (λ number less. meets _ (Only number) (only-place index number _ less refl)) p inside;
            };
          },
        )

    pub healthy_from_parts : ((number : ℕ) → members_of (essential_names index) number ≡ true → Holds index set (Essential number)) → ((q : ℕ) → set q ≡ true → MeetsPlace index set q) → IsHealthy index set
    healthy_from_parts essential each k d inside = by (get_or (constraints_of index) k d) (constraints-within index k d inside) (all_right index k d inside)
      where
        by : (c : Constraint) → IsOfIndex index c → IsRight index c → Holds index set c
        by (Essential number) of_index right = essential number (contains_member (essential_names index) number right)
        by (Need p j) of_index right = λ has. (each p has).needs j of_index.1 has
        by (Apart p j) of_index right = λ has. (each p has).conflicts.entries j of_index.1 has
        by (Only number) of_index right = only_from_once number each
