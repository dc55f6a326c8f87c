-- Names of which one package at most is in, and the places that have them.
use Rattle.std.proofs.Common.{◌≡◌, ℕ, ◌+◌, ◌<◌, ◌≤◌, true, false, ◌&&◌, List, [], ◌++◌, take, length, get_or, ◌↔◌, sym, subst, ◌∙◌, ap, inl, inr, arith}
use Rattle.std.specs.Option.{option_map_or}
use Rattle.std.proofs.lemmas.Bool.{false≢true, and_parts, and_from}
use Rattle.std.proofs.lemmas.Option.{slice_get-get_or}
use Rattle.deb_index.specs.declared.constraint.Constraint.TheVariants.{Only}
use Rattle.deb_index.specs.Packages.{IndexView, no_package, package_at, is_named, names, name_at, places_of}
use Rattle.deb_index.specs.Constraints.{Holds, has_name, IsAlone, HasOneOf, HasOneVersion}
use Rattle.number_sets.specs.Sets.{NumberSet, members_of, with_number}
use Rattle.deb_encode.specs.Play.{placed}
use Rattle.deb_encode.specs.Exclusions.{AreNamesOf, is_of_name}
use Rattle.number_sets.proofs.ListMembers.{members_of_at, take_whole, below_members}
use Rattle.deb_encode.proofs.AddLemmas.{taken_either, taken_before, taken_last}
use Rattle.deb_index.proofs.IndexFacts.{once_says_only, named_is_place}
use Rattle.number_sets.proofs.Placing.{with_number_has, with_number_only, grows_keeps, grows_with}
use Rattle.deb_encode.proofs.Told.{in_play_placed}

-- ---- the places of a name

module _ (index : IndexView) (number : ℕ) where
  pub only_by_row : (row : List ℕ) (set : NumberSet) → row ≡ places_of index (name_at index number) → (HasOneOf row set ↔ Holds index set (Only number))
  only_by_row row set same =
      let For : List ℕ → Type 0 = λ list. HasOneOf list set ↔ Holds index set (Only number) in
      subst For (sym same) (once_says_only index number set)

  -- a name of one package needs no clause
  pub only_single : (row : List ℕ) (set : NumberSet) → row ≡ places_of index (name_at index number) → length row < 2 → Holds index set (Only number)
  only_single row set same short =
      (only_by_row row set same).0
      (λ q r q_there r_there q_in r_in.
      let q_at = members_of_at row q q_there in
      let r_at = members_of_at row r r_there in
      let one : q_at.0 ≡ r_at.0 = omega (arith, short, q_at.1, r_at.1) in
      sym q_at.2 ∙ (ap (λ k. get_or row k 0) one ∙ r_at.2))

  named_as : (q : ℕ) → q < length index.packages → has_name index q number ≡ is_of_name index number q
  named_as q inside = ap (λ there. option_map_or (is_named (name_at index number)) there false) (slice_get-get_or index.packages q no_package inside)

  pub only_in_play : (forced candidates found : List ℕ) (vars : NumberSet) → ((q : ℕ) → members_of (forced ++ candidates) q ≡ true → q < length index.packages)
      → ((q : ℕ) → members_of found q ≡ (members_of (forced ++ candidates) q && is_of_name index number q))
      → (HasOneOf found (placed forced candidates vars) ↔ Holds index (placed forced candidates vars) (Only number))
  only_in_play forced candidates found vars within found_are =
      let finds : (q : ℕ) → placed forced candidates vars q ≡ true → has_name index q number ≡ true → members_of found q ≡ true =
      λ q there named.
      found_are q ∙ and_from (members_of (forced ++ candidates) q) (is_of_name index number q) (in_play_placed forced candidates vars q there) (sym (named_as q (named_is_place index q number named)) ∙ named) in
      let has : (q : ℕ) → members_of found q ≡ true → has_name index q number ≡ true =
      λ q is_found. (let parts = and_parts (members_of (forced ++ candidates) q) (is_of_name index number q) (sym (found_are q) ∙ is_found) in named_as q (within q parts.0) ∙ parts.1) in (
        λ one q r q_in r_in q_named r_named. one q r (finds q q_in q_named) (finds r r_in r_named) q_in r_in,
        λ holds q r q_there r_there q_in r_in. holds q r q_in r_in (has q q_there) (has r r_there),
      )

-- ---- names of places

pub names_none : (index : IndexView) (numbers : List ℕ) → numbers ≡ [] → AreNamesOf index (members_of []) numbers
names_none index numbers empty = record {
  below = λ k d inside. absurd (omega (arith, inside, ap length empty));
  among = λ number is_in. absurd (false≢true (sym (ap (λ list. members_of list number) empty) ∙ is_in));
  all = λ q is_in. absurd (false≢true is_in);
}

module _ (index : IndexView) (places : List ℕ) (i x : ℕ) (inside : i < length places) (here : x ≡ get_or places i 0) where
  pub names_more : (numbers after : List ℕ) (name : ℕ) → name < length (names index) → name_at index name ≡ (package_at index x).name → after ≡ with_number numbers name
      → AreNamesOf index (members_of (take i places)) numbers → AreNamesOf index (members_of (take (i + 1) places)) after
  names_more numbers after name within named after_is are =
      let more : AreNamesOf index (members_of (take (i + 1) places)) (with_number numbers name) = record {
        below = below_members (with_number numbers name) (length (names index)) (λ number is_in.
            elim (with_number_only numbers name number is_in) [
              | inl old ↦ let at = members_of_at numbers number old in omega (arith, are.below at.0 0 at.1, at.2)
              | inr last ↦ omega (arith, within, last)
            ]);
        among = λ number is_in.
            elim (with_number_only numbers name number is_in) [
              | inl old ↦ let at = are.among number old in (at.0, taken_before places i inside at.0 at.1, at.2)
              | inr last ↦ (get_or places i 0, taken_last places i inside, ap (name_at index) (sym last) ∙ (named ∙ ap (λ p. (package_at index p).name) here))
            ];
        all = λ q is_in.
            elim (taken_either places i inside q is_in) [
              | inl old ↦ elim (are.all q old) [
                | inl alone ↦ inl alone
                | inr has ↦ inr (has.0, grows_keeps (name + 1) numbers (with_number numbers name) (grows_with (name + 1) numbers name (omega arith)) has.0 has.1, has.2)
              ]
              | inr last ↦ inr (name, with_number_has numbers name, named ∙ ap (λ p. (package_at index p).name) (here ∙ last))
            ];
      } in
      let For : List ℕ → Type 0 = λ list. AreNamesOf index (members_of (take (i + 1) places)) list in
      subst For (sym after_is) more

  pub names_passed : (numbers : List ℕ) → IsAlone index x → AreNamesOf index (members_of (take i places)) numbers → AreNamesOf index (members_of (take (i + 1) places)) numbers
  names_passed numbers alone are = record {
    below = are.below;
    among = λ number is_in. let at = are.among number is_in in (at.0, taken_before places i inside at.0 at.1, at.2);
    all = λ q is_in.
        elim (taken_either places i inside q is_in) [
          | inl old ↦ are.all q old
          | inr last ↦ (let Alone : ℕ → Type 0 = λ p. IsAlone index p in inl (subst Alone (here ∙ last) alone))
        ];
  }

pub names_whole : (index : IndexView) (places numbers : List ℕ) (i : ℕ) → length places ≤ i → AreNamesOf index (members_of (take i places)) numbers → AreNamesOf index (members_of places) numbers
names_whole index places numbers i past are = (let For : List ℕ → Type 0 = λ list. AreNamesOf index (members_of list) numbers in subst For (take_whole places i past) are)

-- ---- each name told once

pub names_say : (index : IndexView) (places : NumberSet) (numbers : List ℕ) (set : NumberSet) → AreNamesOf index places numbers
    → ((number : ℕ) → members_of numbers number ≡ true → Holds index set (Only number)) ↔ ((q : ℕ) → places q ≡ true → HasOneVersion index set q)
names_say index places numbers set are =
    let Once : List ℕ → Type 0 = λ name. HasOneOf (places_of index name) set in (
      λ each q is_in.
          elim (are.all q is_in) [
            | inl alone ↦ λ r s r_there s_there r_in s_in. alone.only r r_there ∙ sym (alone.only s s_there)
            | inr has ↦ subst Once has.2 ((once_says_only index has.0 set).1 (each has.0 has.1))
          ],
      λ once number is_in.
          let at = are.among number is_in in
          (once_says_only index number set).0 (subst Once (sym at.2) (once at.0 at.1)),
    )
