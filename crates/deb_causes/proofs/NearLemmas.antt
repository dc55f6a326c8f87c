-- The places near to some atoms, from those near to each.
use Rattle.std.proofs.Common.{◌≡◌, ◌==◌, ℕ, ◌<◌, Bool, true, false, not, ◌&&◌, ◌||◌, List, [], ◌∷◌, ◌++◌, All, filter, length, map, None, refl, sym, ap, ap₂, ◌∙◌, slice_get, Option, Some, inl, inr}
use Rattle.std.specs.List.{enumerate_from, flat_map, list_any}
use Rattle.std.specs.List.Sorted.{IsStrictlyIncreasing}
use Rattle.std.specs.Option.{option_map_or}
use Rattle.std.proofs.lemmas.Bool.{cases_Bool}
use Rattle.std.proofs.lemmas.List.{map-append}
use Rattle.std.proofs.lemmas.List.Folds.{list_any-append}
use Rattle.deb_relation.specs.Relationship.{AtomText}
use Rattle.deb_index.specs.Meets.{is_providing, provided_at}
use Rattle.deb_index.specs.Packages.{IndexView, PackageView, is_named, places_of, places_where}
use Rattle.deb_index.proofs.MemberLemmas.{below-places_where, member-places_where, rising-places_where, where_from}
use Rattle.number_sets.proofs.RisingLists.{rising_once}
use Rattle.deb_causes.specs.Near.{is_near, near_places}
use Rattle.number_sets.proofs.PlaceLemmas.{is_among, none-where, one-is-some}

-- a place that stands before each of some numbers is among these pairs' places where there is one
repeated : (x k : ℕ) (js : List ℕ) → is_among k (map (λ (pair : ℕ × ℕ). pair.0) (map (λ (j : ℕ). (x, j)) js)) ≡ (not (length js == 0) && (x == k))
repeated x k [] = refl
repeated x k (j ∷ js) = rw (one-is-some j js, repeated x k js) (go (x == k) (length js == 0))
  where
    go : (a none : Bool) → (a || (not none && a)) ≡ a
    go true none = refl
    go false true = refl
    go false false = refl

by-entries : (test : AtomText → Bool) (k : ℕ) (es : List (ℕ × PackageView))
    → is_among k (map (λ (pair : ℕ × ℕ). pair.0) (flat_map (λ e. map (λ (j : ℕ). (e.0, j)) (places_where test e.1.provides)) es)) ≡ is_among k (map (λ e. e.0) (filter (λ e. list_any test e.1.provides) es))
by-entries test k [] = refl
by-entries test k (e ∷ es) =
    let first : ℕ × ℕ → ℕ = λ pair. pair.0 in
    let here : List (ℕ × ℕ) = map (λ j. (e.0, j)) (places_where test e.1.provides) in
    let later : List (ℕ × ℕ) = flat_map (λ d. map (λ j. (d.0, j)) (places_where test d.1.provides)) es in
    let some : is_among k (map first here) ≡ (not (not (list_any test e.1.provides)) && (e.0 == k)) =
    repeated e.0 k (places_where test e.1.provides) ∙ ap (λ none. not none && (e.0 == k)) (ap (λ places. length places == 0) (where_from test e.1.provides) ∙ none-where test 0 e.1.provides) in
    ap (is_among k) (map-append first here later)
    ∙ list_any-append (λ member. member == k) (map first here) (map first later)
    ∙ ap₂ (λ a b. a || b) some (by-entries test k es)
    ∙ elim (cases_Bool (list_any test e.1.provides)) [
      | inl provides ↦ rw provides refl
      | inr other ↦ rw other refl
    ]

-- the places where a name is provided
provided-among : (index : IndexView) (name : List ℕ) (place : ℕ) → is_among place (map (λ (pair : ℕ × ℕ). pair.0) (provided_at index name))
    ≡ option_map_or (λ (deb : PackageView). list_any (is_providing index.arch name) deb.provides) (slice_get index.packages place) false
unfolding provided_at places_where
provided-among index name place =
    by-entries (is_providing index.arch name) place (enumerate_from 0 index.packages)
    ∙ member-places_where (λ (deb : PackageView). list_any (is_providing index.arch name) deb.provides) index.packages place

-- the places of the packages that have the name of an atom, and of those that provide it
abbrev pub places_by : IndexView → AtomText → List ℕ
places_by index atom = places_of index atom.name ++ map (λ pair. pair.0) (provided_at index atom.name)

near-among : (index : IndexView) (atom : AtomText) (place : ℕ) → is_among place (places_by index atom) ≡ option_map_or (λ deb. is_near index.arch deb atom) (slice_get index.packages place) false
near-among index atom place =
    list_any-append (λ member. member == place) (places_of index atom.name) (map (λ pair. pair.0) (provided_at index atom.name))
    ∙ ap₂ (λ a b. a || b) (member-places_where (is_named atom.name) index.packages place) (provided-among index atom.name place)
    ∙ both (slice_get index.packages place)
  where
    both : (o : Option PackageView) → (option_map_or (is_named atom.name) o false || option_map_or (λ (deb : PackageView). list_any (is_providing index.arch atom.name) deb.provides) o false)
        ≡ option_map_or (λ deb. is_near index.arch deb atom) o false
    both None = refl
    both (Some deb) = refl

-- ---- those near to one of some atoms

any-places : (index : IndexView) (atoms : List AtomText) (place : ℕ)
    → is_among place (flat_map (places_by index) atoms) ≡ list_any (λ atom. option_map_or (λ deb. is_near index.arch deb atom) (slice_get index.packages place) false) atoms
any-places index [] place = refl
any-places index (atom ∷ atoms) place =
    list_any-append (λ member. member == place) (places_by index atom) (flat_map (places_by index) atoms)
    ∙ ap₂ (λ a b. a || b) (near-among index atom place) (any-places index atoms place)

any-inside : (arch : List ℕ) (atoms : List AtomText) (o : Option PackageView)
    → list_any (λ atom. option_map_or (λ deb. is_near arch deb atom) o false) atoms ≡ option_map_or (λ deb. list_any (is_near arch deb) atoms) o false
any-inside arch atoms None = none atoms
  where
    none : (xs : List AtomText) → list_any (λ (atom : AtomText). false) xs ≡ false
    none [] = refl
    none (x ∷ xs) = none xs
any-inside arch atoms (Some deb) = refl

pub near-places : (index : IndexView) (atoms : List AtomText) (collected sorted : List ℕ) → collected ≡ flat_map (places_by index) atoms → IsStrictlyIncreasing sorted
    → ((place : ℕ) → is_among place sorted ≡ is_among place collected) → sorted ≡ near_places index atoms
unfolding near_places
near-places index atoms collected sorted is rising same =
    let test : PackageView → Bool = λ deb. list_any (is_near index.arch deb) atoms in
    rising_once sorted (places_where test index.packages) rising (rising-places_where test index.packages)
    (λ place. same place ∙ ap (is_among place) is ∙ any-places index atoms place ∙ any-inside index.arch atoms (slice_get index.packages place)
    ∙ sym (member-places_where test index.packages place))

pub within-places : (index : IndexView) (atoms : List AtomText) → All (λ place. place < length index.packages) (near_places index atoms)
unfolding near_places
within-places index atoms = below-places_where (λ deb. list_any (is_near index.arch deb) atoms) index.packages
