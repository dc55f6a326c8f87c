-- The versions of a name: which packages have or provide them, and that those within the bound of an atom are those of the packages that meet it.
use Rattle.std.proofs.Common.{◌≡◌, ℕ, ◌+◌, ◌<◌, Bool, true, false, ◌&&◌, ◌||◌, cond, eqb, List, [], ◌∷◌, ◌++◌, map, filter, take, get_or, length, Option, Some, None, slice_get, refl, sym, ◌∙◌, ap, subst, arith}
use Rattle.std.specs.Prelude.{IfSome}
use Rattle.std.specs.List.{list_any}
use Rattle.std.specs.List.Sorted.{IsPermutation}
use Rattle.std.specs.Option.{option_map, option_map_or}
use Rattle.std.specs.Str.{bytes_eq}
use Rattle.std.proofs.lemmas.List.Folds.{list_any-append}
use Rattle.std.proofs.lemmas.List.Sorted.{list_any-IsPermutation}
use Rattle.deb_relation.specs.declared.bound.Op.{Op}
use Rattle.deb_relation.specs.Relationship.{AtomText, is_usable}
use Rattle.deb_relation.specs.VersionOrder.{bound_holds}
use Rattle.deb_index.specs.declared.meets.Role.{Role}
use Rattle.deb_index.specs.declared.meets.Role.TheVariants.{Alternative, Entry}
use Rattle.deb_index.specs.declared.versions.Offer.{Offer}
use Rattle.deb_index.specs.declared.versions.Versions.{Versions}
use Rattle.deb_index.specs.Packages.{IndexView, PackageView, is_in, is_named, places_of, places_where}
use Rattle.deb_index.specs.Meets.{allows, entry_meets, is_providing, meets, meets_bound, meets_itself, meets_need, provided_at, provided_version}
use Rattle.deb_index.specs.Rows.{AreOffers, is_offer, meets_as, meets_as_at, offers, provided_version_at, usable_as, usable_as_at, version_at}
use Rattle.deb_index.proofs.FirstLemmas.{same-name}
use Rattle.deb_index.proofs.FoundLemmas.{or-none}
use Rattle.deb_index.proofs.MemberLemmas.{member-places_where}
use Rattle.deb_index.proofs.ProviderLemmas.{entry-any, numbers-any}

-- ---- what is of a place, in a list whose elements each have one

module _ {E : Type 0} (place : E → ℕ) (q : ℕ) where
  -- what is asked of the place is asked once
  pub any-of-place : (test : E → Bool) (of_place : ℕ → Bool) (es : List E) → list_any (λ x. test x && (eqb (place x) q && of_place (place x))) es ≡ (list_any (λ x. eqb (place x) q && test x) es && of_place q)
  any-of-place test of_place [] = refl
  any-of-place test of_place (e ∷ es) = grind (arith, any-of-place test of_place es)

any-filter : {E : Type 0} (test passes : E → Bool) (es : List E) → list_any test (filter passes es) ≡ list_any (λ x. passes x && test x) es
any-filter test passes [] = refl
any-filter test passes (e ∷ es) = grind (arith, any-filter test passes es)

in-itself : (test : ℕ → Bool) (q : ℕ) (places : List ℕ) → list_any (λ p. eqb p q && test p) places ≡ (is_in places q && test q)
in-itself test q [] = refl
in-itself test q (p ∷ places) = grind (arith, in-itself test q places)

-- ---- all versions of a name

abbrev pub has_version : IndexView → (List ℕ → Bool) → ℕ → ℕ → Bool
has_version index test q p = eqb p q && option_map_or test (version_at index p) false

abbrev pub provides_version : IndexView → (List ℕ → Bool) → ℕ → ℕ × ℕ → Bool
provides_version index test q e = eqb e.0 q && option_map_or test (provided_version_at index e) false

abbrev pub usable_of : Role → IndexView → AtomText → ℕ → Offer → Bool
usable_of role index atom q o = eqb o.place q && usable_as_at role index o.place atom

module _ (index : IndexView) (name : List ℕ) (test : List ℕ → Bool) (q : ℕ) where
  of-provided : (entry : Option AtomText) → option_map_or test (option_map_or provided_version entry None) false ≡ option_map_or (λ e. option_map_or test (provided_version e) false) entry false
  of-provided None = refl
  of-provided (Some e) = refl

  package-offers : (o : Option PackageView)
      → ((option_map_or (is_named name) o false && option_map_or test (option_map (λ p. p.version) o) false)
      || option_map_or (λ p. list_any (λ j. option_map_or test (option_map_or (λ r. option_map_or provided_version (slice_get r.provides j) None) o None) false) (places_where (is_providing index.arch name) p.provides)) o false)
      ≡ option_map_or (offers index.arch name test) o false
  unfolding places_where
  package-offers None = refl
  package-offers (Some p) = ap (λ b. (is_named name p && test p.version) || b) (own-numbers p)
    where
      own-numbers : (p : PackageView) → list_any (λ j. option_map_or test (option_map_or provided_version (slice_get p.provides j) None) false) (places_where (is_providing index.arch name) p.provides)
          ≡ list_any (λ e. is_providing index.arch name e && option_map_or test (provided_version e) false) p.provides
      own-numbers p =
          numbers-any (is_providing index.arch name) (λ e. option_map_or test (provided_version e) false) (λ j. option_map_or test (option_map_or provided_version (slice_get p.provides j) None) false) 0 p.provides
          (λ i. let same : 0 + i ≡ i = omega arith in ap (λ j. option_map_or test (option_map_or provided_version (slice_get p.provides j) None) false) same ∙ of-provided (slice_get p.provides i))

  pub all-offers : (named : List ℕ) (provided : List (ℕ × ℕ)) → named ≡ places_of index name → provided ≡ provided_at index name
      → (list_any (has_version index test q) named || list_any (provides_version index test q) provided)
      ≡ option_map_or (offers index.arch name test) (slice_get index.packages q) false
  unfolding provided_at
  all-offers named provided n p =
      (λ k. list_any (has_version index test q) (n k) || list_any (provides_version index test q) (p k))
      ∙ (λ k. (in-itself (λ r. option_map_or test (version_at index r) false) q (places_of index name) ∙ ap (λ b. b && option_map_or test (version_at index q) false) (member-places_where (is_named name) index.packages q)) k
      || entry-any (λ r j. option_map_or test (provided_version_at index (r, j)) false) q (λ r. places_where (is_providing index.arch name) r.provides) 0 q index.packages (omega arith) k)
      ∙ package-offers (slice_get index.packages q)

pub found-there : {V R : Type 0} (now : R → V) (P : V → Type 0) (o : Option R) (r : R) (got : Option V) → option_map now o ≡ got → o ≡ Some r → IfSome got P → P (now r)
found-there now P o r got same is there = subst (λ g. IfSome g P) (sym same ∙ ap (option_map now) is) there

-- in another order they are the same
pub offers-moved : (index : IndexView) (name : List ℕ) (list moved : List Offer) → IsPermutation list moved → AreOffers index name list → AreOffers index name moved
offers-moved index name list moved same are = λ q test. sym (list_any-IsPermutation (is_offer q test) list moved same) ∙ are q test

-- the versions of one name more
pub put-sorted : (index : IndexView) (name q : List ℕ) (made : Versions) (got : Option Versions) (b : Bool) → bytes_eq name q ≡ b → AreOffers index name made.offers.items
    → IfSome got (λ v. AreOffers index q v.offers.items) → IfSome (cond b (Some made) got) (λ v. AreOffers index q v.offers.items)
put-sorted index name q made got true same are old = subst (λ n. AreOffers index n made.offers.items) (same-name name q same) are
put-sorted index name q made got false apart are old = old

-- ---- those within the bound of an atom

and-assoc : (a b c : Bool) → ((a && b) && c) ≡ (a && b && c)
and-assoc a b c = grind arith

and-turned : (a b : Bool) → (a && b) ≡ (b && a)
and-turned a b = grind arith

usable-both : (a u w : Bool) → (a && (u && w)) ≡ ((u && a) && w)
usable-both a u w = grind arith

module _ (arch : List ℕ) (atom : AtomText) (op : Op) (than : List ℕ) (bound : atom.bound ≡ Some (op, than)) where
  bound-provided : (version : Option (List ℕ)) → option_map_or (λ v. bound_holds v op than) version false ≡ meets_bound version (Some (op, than))
  bound-provided None = refl
  bound-provided (Some v) = refl

  entry-offers : (e : AtomText) → (is_providing arch atom.name e && option_map_or (λ v. bound_holds v op than) (provided_version e) false) ≡ entry_meets arch atom e
  entry-offers e =
      ap (λ b. is_providing arch atom.name e && b) (bound-provided (provided_version e) ∙ ap (λ b. meets_bound (provided_version e) b) (sym bound))
      ∙ and-assoc (is_usable arch e.qualifier) (bytes_eq atom.name e.name) (meets_bound (provided_version e) atom.bound)

  named-offers : (p : PackageView) → offers arch atom.name (λ v. bound_holds v op than) p ≡ (meets_itself p atom || list_any (entry_meets arch atom) p.provides)
  named-offers p = λ i. (is_named atom.name p && meets_bound (Some p.version) (sym bound i)) || list_any (λ e. entry-offers e i) p.provides

  package-meets : (role : Role) (p : PackageView) → (offers arch atom.name (λ v. bound_holds v op than) p && usable_as role arch p atom) ≡ meets_as role arch p atom
  unfolding meets meets_need
  package-meets Alternative p =
      ap (λ b. b && (is_usable arch atom.qualifier && allows p atom)) (named-offers p)
      ∙ usable-both (meets_itself p atom || list_any (entry_meets arch atom) p.provides) (is_usable arch atom.qualifier) (allows p atom)
  package-meets Entry p = ap (λ b. b && is_usable arch atom.qualifier) (named-offers p) ∙ and-turned (meets_itself p atom || list_any (entry_meets arch atom) p.provides) (is_usable arch atom.qualifier)

module _ (role : Role) (index : IndexView) (atom : AtomText) (op : Op) (than : List ℕ) (bound : atom.bound ≡ Some (op, than)) where
  pub offers-meet : (list : List Offer) → AreOffers index atom.name list → (q : ℕ)
      → list_any (usable_of role index atom q) (filter (λ o. bound_holds o.version.now op than) list) ≡ meets_as_at role index q atom
  offers-meet list are q =
      let within : List ℕ → Bool = λ v. bound_holds v op than in
      any-filter (usable_of role index atom q) (λ o. within o.version.now) list
      ∙ any-of-place (λ o. o.place) q (λ o. within o.version.now) (λ p. usable_as_at role index p atom) list
      ∙ ap (λ b. b && usable_as_at role index q atom) (are q within) ∙ at (slice_get index.packages q)
    where
      at : (o : Option PackageView) → (option_map_or (offers index.arch atom.name (λ v. bound_holds v op than)) o false && option_map_or (λ p. usable_as role index.arch p atom) o false)
          ≡ option_map_or (λ p. meets_as role index.arch p atom) o false
      at None = refl
      at (Some p) = package-meets index.arch atom op than bound role p
