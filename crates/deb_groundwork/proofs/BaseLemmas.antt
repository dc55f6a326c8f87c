-- Sets that grow on a base set.
use Rattle.std.proofs.Common.{◌≡◌, ℕ, ◌<◌, ◌≤◌, true, false, List, [], length, get_or, All, refl, sym, subst, ◌∙◌, ap, inl, inr}
use Rattle.std.specs.List.{list_any}
use Rattle.std.specs.Option.{option_map_or}
use Rattle.std.specs.Str.{bytes_eq}
use Rattle.std.proofs.lemmas.Bool.{both_ways, cases_Bool, false≢true, or_cases, or_left}
use Rattle.std.proofs.lemmas.List.Elements.{All-nil}
use Rattle.std.proofs.lemmas.Option.{slice_get-get_or}
use Rattle.deb_index.specs.declared.constraint.Constraint.TheVariants.{Essential, Apart}
use Rattle.deb_index.specs.Packages.{IndexView, no_package, package_at, is_named, name_at, places_of, need_at, aparts_at, apart_at}
use Rattle.deb_index.specs.Meets.{group_satisfiers, meets, satisfiers}
use Rattle.deb_index.specs.Constraints.{Holds, has_name, hits}
use Rattle.deb_index.proofs.FirstLemmas.{name-itself}
use Rattle.deb_index.proofs.MemberLemmas.{below-places_where}
use Rattle.number_sets.specs.Sets.{NumberSet, members_of, IsWithin, Grows}
use Rattle.number_sets.proofs.ListMembers.{below_members, member_any, members_of_at}
use Rattle.number_sets.proofs.Placing.{grows_keeps}
use Rattle.deb_health.specs.Causes.{either}
use Rattle.deb_health.specs.Health.{MeetsAt}
use Rattle.deb_index.proofs.IndexFacts.{member_named, member_satisfiers}
use Rattle.deb_groundwork.specs.declared.base_set.BaseSet.{BaseSet}
use Rattle.deb_groundwork.specs.declared.part.Part.{Part}
use Rattle.deb_groundwork.specs.BaseSets.{HasHits, HasRoom, IsBase}
use Rattle.deb_groundwork.specs.Groundwork.{HasAnswers}
use Rattle.deb_groundwork.specs.Parts.{positions_in, HasNoEarlier, MeetsAsked, MeetsAskedOf}
use Rattle.deb_groundwork.proofs.GroundworkLemmas.{answered_by_row}
use Rattle.deb_groundwork.proofs.Healthy.{name_is, numbered}
use Rattle.deb_groundwork.proofs.WitnessLemmas.{of_members, part_held}

pub empty_is_base : (index : IndexView) (base : BaseSet) → base.members ≡ [] → IsBase index base
empty_is_base index base empty =
    let never : (place : ℕ) → members_of base.members place ≡ true → ⊥ = λ place is_in. false≢true (sym (ap (λ list. members_of list place) empty) ∙ is_in) in
    let Within : List ℕ → Type 0 = λ list. All (λ place. place < length index.packages) list in
    record {
      within = subst Within (sym empty) (All-nil (λ place. place < length index.packages));
      needs = λ place is_in. absurd (never place is_in);
      aparts = λ place j is_in. absurd (never place is_in);
      once = λ place is_in. absurd (never place is_in);
      hit = λ place is_in. absurd (never place is_in);
    }

-- the set has what the package at a place asks for, and no earlier package of its name
pub record StandsIn (index : IndexView) (set : NumberSet) (place : ℕ) : Type 0 where
  pub is_place : place < length index.packages
  pub needs : HasAnswers index set place
  pub aparts : (j : ℕ) → j < length (aparts_at index place) → Holds index set (Apart place j)
  pub once : HasNoEarlier index set place

-- what each of a list has, up to its end
pub base_of : (index : IndexView) (base : BaseSet) (list : List ℕ) (count : ℕ) → list ≡ base.members → length list ≤ count
    → ((k : ℕ) → k < count → StandsIn index (members_of base.members) (get_or list k 0))
    → ((k : ℕ) → k < count → HasHits index (members_of base.hit) (get_or list k 0))
    → IsBase index base
base_of index base list count list_is past stand hit =
    let Each : (ℕ → Type 0) → List ℕ → Type 0 = λ Property items. (q : ℕ) → members_of items q ≡ true → Property q in
    let each = subst (Each (StandsIn index (members_of base.members))) list_is (of_members (StandsIn index (members_of base.members)) list count past stand) in
    record {
      within = below_members base.members (length index.packages) (λ q is_in. (each q is_in).is_place);
      needs = λ place is_in. (each place is_in).needs;
      aparts = λ place j is_in. (each place is_in).aparts j;
      once = λ place is_in. (each place is_in).once;
      hit = subst (Each (HasHits index (members_of base.hit))) list_is (of_members (HasHits index (members_of base.hit)) list count past hit);
    }

module _ (index : IndexView) where
  -- the row of an entry has places only, so that what is extended by it keeps what it had
  pub hits_keep : (place j : ℕ) (row before after : List ℕ) → row ≡ satisfiers index (apart_at index place j)
      → ((count : ℕ) → All (λ q. q < count) row → Grows count before after)
      → IsWithin (members_of before) (members_of after)
  hits_keep place j row before after row_is grows =
      let Within : List ℕ → Type 0 = λ list. All (λ q. q < length index.packages) list in
      let within : Within row = subst Within (sym row_is) (below-places_where (λ item. meets index.arch item (apart_at index place j)) index.packages) in
      grows_keeps (length index.packages) before after (grows (length index.packages) within)

  -- what an entry hits stands in its row
  pub hit_in_row : (place j : ℕ) (row : List ℕ) (q : ℕ) → row ≡ satisfiers index (apart_at index place j)
      → hits index place j q ≡ true → members_of row q ≡ true
  hit_in_row place j row q row_is hit = ap (λ list. members_of list q) row_is ∙ (member_satisfiers index (apart_at index place j) q ∙ hit)

  -- no version of a package is in where none of their row is
  pub no_version : (members row : List ℕ) (place : ℕ) → row ≡ places_of index (package_at index place).name → list_any (members_of members) row ≡ false
      → (q : ℕ) → members_of (places_of index (package_at index place).name) q ≡ true → members_of members q ≡ false
  no_version members row place row_is none q version =
      elim (cases_Bool (members_of members q)) [
        | inl is_in ↦
            absurd (both_ways (list_any (members_of members) row) none
            (member_any (members_of members) row q is_in (ap (λ list. members_of list q) row_is ∙ version)))
        | inr lacks ↦ lacks
      ]

  -- what a package is a version of, is a version of it
  pub turned : (q r : ℕ) → q < length index.packages → members_of (places_of index (package_at index q).name) r ≡ true
      → members_of (places_of index (package_at index r).name) q ≡ true
  turned q r inside version =
      let at = numbered index q inside in
      let named : has_name index r at.0 ≡ true = sym (member_named index at.0 r) ∙ (ap (λ name. members_of (places_of index name) r) at.2 ∙ version) in
      let itself : has_name index q at.0 ≡ true =
      ap (λ found. option_map_or (is_named (name_at index at.0)) found false) (slice_get-get_or index.packages q no_package inside)
      ∙ (ap (λ name. bytes_eq name (package_at index q).name) at.2 ∙ name-itself (package_at index q).name) in
      ap (λ name. members_of (places_of index name) q) (sym (name_is index r at.0 named)) ∙ (member_named index at.0 q ∙ itself)

module _ (part : Part) (base : BaseSet) (is_base : IsBase part.index.now base) (more : List ℕ) where
  abbrev pub on_base : NumberSet
  on_base = either (members_of base.members) (members_of more)

  is_place : (q : ℕ) → members_of base.members q ≡ true → q < length part.index.now.packages
  is_place q is_in =
      let at = members_of_at base.members q is_in in
      subst (λ place. place < length part.index.now.packages) at.2 (is_base.within at.0 0 at.1)

  module _ (room : (q : ℕ) → members_of more q ≡ true → HasRoom part.index.now base q) where
    stays_once : (q : ℕ) → members_of base.members q ≡ true → HasNoEarlier part.index.now on_base q
    stays_once q based is_in r less version r_in =
        elim (or_cases (members_of base.members r) (members_of more r) r_in) [
          | inl r_based ↦ is_base.once q based based r less version r_based
          | inr r_more ↦ false≢true (sym ((room r r_more).unnamed q (turned part.index.now q r (is_place q based) version)) ∙ based)
        ]

    pub stays : (q : ℕ) → members_of base.members q ≡ true → MeetsAskedOf part on_base q
    stays q based =
        let index = part.index.now in
        let at = numbered index q (is_place q based) in
        record {
          needs = λ j inside asked is_in.
              (let found = answered_by_row index (members_of base.members) q j (group_satisfiers index (need_at index q j)) refl (is_base.needs q based j inside) in
              (found.0, or_left (members_of base.members found.0) (members_of more found.0) found.1, found.2));
          aparts = λ j inside asked is_in r r_in hit.
              elim (or_cases (members_of base.members r) (members_of more r) r_in) [
                | inl r_based ↦ is_base.aparts q j based inside based r r_based hit
                | inr r_more ↦ absurd (false≢true (sym (room r r_more).unhit ∙ is_base.hit q based j r inside hit))
              ];
          once = (at.0, at.1, at.2, λ asked. stays_once q based);
        }

    pub held_on_base : ((number : ℕ) → MeetsAsked part on_base (Essential number))
        → ((q : ℕ) → members_of more q ≡ true → MeetsAskedOf part on_base q)
        → MeetsAt part.index.now on_base (positions_in part)
    held_on_base essentials each =
        part_held part on_base essentials
        (λ q is_in. elim (or_cases (members_of base.members q) (members_of more q) is_in) [
          | inl based ↦ stays q based
          | inr more ↦ each q more
        ])

-- a base set that has the essential names meets what is asked of all places
pub base_meets : (part : Part) (base : BaseSet) → IsBase part.index.now base
    → ((number : ℕ) → MeetsAsked part (members_of base.members) (Essential number)) → MeetsAt part.index.now (members_of base.members) (positions_in part)
base_meets part base is_base essentials =
    let index = part.index.now in
    part_held part (members_of base.members) essentials
    (λ q based.
    let at = numbered index q (is_place part base is_base [] q based) in
    record {
      needs = λ j inside asked is_in. answered_by_row index (members_of base.members) q j (group_satisfiers index (need_at index q j)) refl (is_base.needs q based j inside);
      aparts = λ j inside asked. is_base.aparts q j based inside;
      once = (at.0, at.1, at.2, λ asked. is_base.once q based);
    })
