-- What the steps of a refutation give, one after another.
use Rattle.std.proofs.Common.{◌≡◌, ◌≢◌, ℕ, ◌<◌, true, false, eqb, ◌||◌, List, [], ◌∷◌, ◌++◌, length, Some, slice_get, refl, sym, subst, ◌∙◌, ap, inl, inr, arith}
use Rattle.std.specs.List.{list_any}
use Rattle.std.specs.Option.{option_map_or}
use Rattle.std.specs.Str.{bytes_eq}
use Rattle.std.proofs.lemmas.Bool.{false≢true, or_cases, or_left, or_right, eqb-true, eq-eqb}
use Rattle.std.proofs.lemmas.Option.{slice_get-get_or}
use Rattle.deb_index.specs.declared.constraint.Constraint.TheVariants.{Essential, Need, Apart, Only}
use Rattle.deb_index.specs.Packages.{IndexView, no_package, package_at, is_named, name_at, need_at}
use Rattle.deb_index.specs.Meets.{group_satisfiers}
use Rattle.deb_index.specs.Constraints.{constraints_of, has_name, hits}
use Rattle.deb_index.proofs.FirstLemmas.{name-itself}
use Rattle.deb_index.proofs.PositionLemmas.{essential_position}
use Rattle.number_sets.specs.Sets.{NumberSet, members_of, IsWithin, with_number}
use Rattle.number_sets.proofs.ListMembers.{member_any}
use Rattle.number_sets.proofs.MembersLemmas.{members_of_push}
use Rattle.deb_groundwork.specs.Parts.{Gives}
use Rattle.deb_health.specs.Health.{AdmitsNone, MeetsAt}
use Rattle.core_extract.specs.Reduction.{IsRefutation}
use Rattle.deb_index.proofs.IndexFacts.{member_named}
use Rattle.deb_groundwork.proofs.Forcing.{member_answers}
use Rattle.number_sets.proofs.Placing.{with_number_only}
use Rattle.deb_groundwork.specs.Groundwork.{IsEssentialRow}

-- ---- one constraint

pub no_row : (row : List ℕ) → length row ≡ 0 → row ≡ []
no_row [] none = refl
no_row (q ∷ row) none = absurd (omega arith)

-- a set that has a place of a row of one has that one
only_has : (set : NumberSet) (q : ℕ) → list_any set (q ∷ []) ≡ true → set q ≡ true
only_has set q has = elim (or_cases (set q) false has) [
  | inl here ↦ here
  | inr never ↦ absurd (false≢true never)
]

module _ (index : IndexView) where
  pub essential_gives : (i : ℕ) (row : List ℕ) → IsEssentialRow index i row → (forced : NumberSet) → Gives index forced i row
  essential_gives i row named forced = record {
    constraint = Essential named.name;
    stands = essential_position index i named.name named.at;
    gives = λ set has holds.
        member_any set row holds.0 holds.1 (ap (λ list. members_of list holds.0) named.is ∙ (member_named index named.name holds.0 ∙ holds.2));
  }

  -- its own name
  named_itself : (q number : ℕ) → q < length index.packages → name_at index number ≡ (package_at index q).name → has_name index q number ≡ true
  named_itself q number inside is =
      ap (λ found. option_map_or (is_named (name_at index number)) found false) (slice_get-get_or index.packages q no_package inside)
      ∙ (ap (λ name. bytes_eq name (package_at index q).name) is ∙ name-itself (package_at index q).name)

  module _ (forced : NumberSet) where
    pub need_gives : (place j position : ℕ) (row : List ℕ) → slice_get (constraints_of index) position ≡ Some (Need place j) → forced place ≡ true
        → row ≡ group_satisfiers index (need_at index place j) → Gives index forced position row
    need_gives place j position row stands is_in row_is = record {
      constraint = Need place j;
      stands = stands;
      gives = λ set has holds.
          (let found = holds (has place is_in) in
          member_any set row found.0 found.1 (ap (λ list. members_of list found.0) row_is ∙ (member_answers index place j found.0 ∙ found.2)));
    }

    pub apart_gives : (place j other position : ℕ) → slice_get (constraints_of index) position ≡ Some (Apart place j)
        → forced place ≡ true → forced other ≡ true → other ≢ place → hits index place j other ≡ true → Gives index forced position []
    apart_gives place j other position stands is_in is_too apart hit = record {
      constraint = Apart place j;
      stands = stands;
      gives = λ set has holds. absurd (apart (holds (has place is_in) other (has other is_too) hit));
    }

    pub only_gives : (first second number position : ℕ) → slice_get (constraints_of index) position ≡ Some (Only number) → first < length index.packages → second < length index.packages
        → forced first ≡ true → forced second ≡ true → second ≢ first → name_at index number ≡ (package_at index first).name → name_at index number ≡ (package_at index second).name
        → Gives index forced position []
    only_gives first second number position stands inside inside_too is_in is_too apart named also = record {
      constraint = Only number;
      stands = stands;
      gives = λ set has holds.
          absurd (apart (holds second first (has second is_too) (has first is_in) (named_itself second number inside_too also) (named_itself first number inside named)));
    }

-- ---- steps

-- steps at positions of a part, and what is in by them
pub record IsDerived (index : IndexView) (p : ℕ) (part : NumberSet) (positions forced : List ℕ) : Type 0 where
  pub within : IsWithin (members_of positions) part
  pub follows : (set : NumberSet) → set p ≡ true → MeetsAt index set (members_of positions) → IsWithin (members_of forced) set

-- what is in one list is in a longer one; what came is there, too
push_old : (numbers : List ℕ) (added number : ℕ) → members_of numbers number ≡ true → members_of (numbers ++ added ∷ []) number ≡ true
push_old numbers added number is_in = members_of_push numbers added number ∙ or_left (members_of numbers number) (eqb added number || false) is_in

push_new : (numbers : List ℕ) (added : ℕ) → members_of (numbers ++ added ∷ []) added ≡ true
push_new numbers added = members_of_push numbers added added ∙ or_right (members_of numbers added) (eqb added added || false) (or_left (eqb added added) false (eq-eqb added added refl))

push_within : (part : NumberSet) (numbers : List ℕ) (added : ℕ) → IsWithin (members_of numbers) part → part added ≡ true → IsWithin (members_of (numbers ++ added ∷ [])) part
push_within part numbers added within has number is_in =
    elim (or_cases (members_of numbers number) (eqb added number || false) (sym (members_of_push numbers added number) ∙ is_in)) [
      | inl old ↦ within number old
      | inr last ↦ elim (or_cases (eqb added number) false last) [
        | inl here ↦ ap part (sym (eqb-true added number here)) ∙ has
        | inr never ↦ absurd (false≢true never)
      ]
    ]

module _ (index : IndexView) (p : ℕ) (part : NumberSet) where
  abbrev Derived : List ℕ → List ℕ → Type 0
  Derived positions forced = IsDerived index p part positions forced

  module _ (positions forced : List ℕ) (position : ℕ) (derived : IsDerived index p part positions forced) (has : part position ≡ true) where
    -- what a set that meets the constraints of all steps has
    step_gives : (row : List ℕ) → Gives index (members_of forced) position row → (set : NumberSet) → set p ≡ true → MeetsAt index set (members_of (positions ++ position ∷ []))
        → list_any set row ≡ true
    step_gives row gives set has_p meets =
        let old = derived.follows set has_p (λ k constraint asked there. meets k constraint (push_old positions position k asked) there) in
        gives.gives set old (meets position gives.constraint (push_new positions position) gives.stands)

    pub derived_more : (q : ℕ) (row positions_then forced_then : List ℕ) → Gives index (members_of forced) position row → row ≡ q ∷ [] → positions_then ≡ positions ++ position ∷ [] → forced_then ≡ with_number forced q
        → Derived positions_then forced_then
    derived_more q row positions_then forced_then gives row_is pushed inserted =
        subst (λ list. Derived list forced_then) (sym pushed)
        (subst (λ list. Derived (positions ++ position ∷ []) list) (sym inserted)
        (record {
          within = push_within part positions position derived.within has;
          follows = λ set has_p meets.
              (let old = derived.follows set has_p (λ k constraint asked there. meets k constraint (push_old positions position k asked) there) in
              λ number is_in.
              elim (with_number_only forced q number is_in) [
                | inl before ↦ old number before
                | inr here ↦ ap set (sym here) ∙ only_has set q (subst (λ list. list_any set list ≡ true) row_is (step_gives row gives set has_p meets))
              ]);
        }))

    pub derived_refutes : (row positions_then : List ℕ) → Gives index (members_of forced) position row → row ≡ [] → positions_then ≡ positions ++ position ∷ []
        → IsRefutation (AdmitsNone index p) part (members_of positions_then)
    derived_refutes row positions_then gives row_is pushed =
        subst (λ list. IsRefutation (AdmitsNone index p) part (members_of list)) (sym pushed)
        (record {
          within = push_within part positions position derived.within has;
          fails = λ admits. false≢true (subst (λ list. list_any admits.0 list ≡ true) row_is (step_gives row gives admits.0 admits.1 admits.2));
        })
