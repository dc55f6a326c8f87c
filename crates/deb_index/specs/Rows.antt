-- Rows of places: those that meet a group or an entry, where they are few; and which row an atom got in each of its roles.
use Rattle.std.specs.Prelude.{ℕ, nat_le, ◌==◌, List, [], ◌∷◌, length, Vec, IfSome, Option, Some, None, if◌then◌else◌, Bool, true, false, ◌&&◌, ◌||◌, slice_get, ◌≡◌, ◌<◌, ◌≤◌, slice_index_or}
use Rattle.deb_relation.specs.Relationship.{AtomText, is_usable, atom_view}
use Rattle.deb_index.specs.Packages.{IndexView, PackageView, is_in, is_named, places_of, places_where}
use Rattle.deb_index.specs.Meets.{allows, group_satisfiers, is_providing, meets, meets_bound, meets_need, provided_at, provided_version, satisfiers}
use Rattle.std.specs.HashMap.{HashMap, get_by}
use Rattle.std.specs.Option.{option_map, option_map_or}
use Rattle.std.specs.Str.{bytes_eq}
use Rattle.std.specs.declared.alloc.Global.{Global}
use Rattle.deb_index.specs.declared.meets.Role.{Role}
use Rattle.deb_index.specs.declared.meets.Role.TheVariants.{Alternative, Entry}
use Rattle.std.specs.List.{All, list_any}
use Rattle.std.specs.List.Sorted.{IsPartitionPoint, IsStrictlyIncreasing}
use Rattle.number_sets.specs.Sets.{NumberSet}
use Rattle.deb_index.specs.declared.memo.Memo.{Memo}
use Rattle.deb_index.specs.declared.memo.Met.{Met}
use Rattle.deb_index.specs.declared.names.Candidates.{Candidates}
use Rattle.deb_index.specs.declared.versions.Offer.{Offer}
use Rattle.deb_index.specs.declared.versions.Versions.{Versions}

abbrev pub meets_as : Role → List ℕ → PackageView → AtomText → Bool
meets_as Alternative arch q atom = meets_need arch q atom
meets_as Entry arch q atom = meets arch q atom

abbrev pub meets_as_at : Role → IndexView → ℕ → AtomText → Bool
meets_as_at role index p atom = option_map_or (λ q. meets_as role index.arch q atom) (slice_get index.packages p) false

-- whether it may stand for the atom where it meets the name and the bound
abbrev pub usable_as : Role → List ℕ → PackageView → AtomText → Bool
usable_as Alternative arch q atom = is_usable arch atom.qualifier && allows q atom
usable_as Entry arch q atom = is_usable arch atom.qualifier

abbrev pub usable_as_at : Role → IndexView → ℕ → AtomText → Bool
usable_as_at role index p atom = option_map_or (λ q. usable_as role index.arch q atom) (slice_get index.packages p) false

-- by the entry of its Provides with a number, where that provides the name
abbrev pub provides_as : Role → List ℕ → PackageView → ℕ → AtomText → Bool
provides_as role arch q number atom = option_map_or (λ entry. usable_as role arch q atom && meets_bound (provided_version entry) atom.bound)
    (slice_get q.provides number) false

abbrev pub provides_as_at : Role → IndexView → ℕ × ℕ → AtomText → Bool
provides_as_at role index e atom = option_map_or (λ q. provides_as role index.arch q e.1 atom) (slice_get index.packages e.0) false

-- the version of the package at a place, and that which such an entry provides
abbrev pub version_at : IndexView → ℕ → Option (List ℕ)
version_at index p = option_map (λ q. q.version) (slice_get index.packages p)

abbrev pub provided_version_at : IndexView → ℕ × ℕ → Option (List ℕ)
provided_version_at index e = option_map_or (λ q. option_map_or provided_version (slice_get q.provides e.1) None) (slice_get index.packages e.0) None

-- how many places a row has at most
abbrev pub row_limit : ℕ
row_limit = 256

-- the row of some places, unless they are too many
abbrev pub row_of : List ℕ → Option (List ℕ)
row_of places = if nat_le (length places) row_limit then Some places else None

-- the row of a group: the places of the packages that meet an alternative of the need
abbrev pub answer_row : IndexView → List AtomText → Option (List ℕ)
answer_row index group = row_of (group_satisfiers index group)

-- the row of an entry: the places of the packages that meet it, whether or not they meet it as an alternative
abbrev pub hit_row : IndexView → AtomText → Option (List ℕ)
hit_row index atom = row_of (satisfiers index atom)

-- the places of the packages that meet one of some atoms in their role, rising
abbrev pub satisfiers_as : Role → IndexView → List AtomText → List ℕ
satisfiers_as role index asked = places_where (λ q. list_any (meets_as role index.arch q) asked) index.packages

-- the row of what is asked for in a role: of the alternatives of a group, or of an entry alone
abbrev pub row_as : Role → IndexView → List AtomText → Option (List ℕ)
row_as role index asked = row_of (satisfiers_as role index asked)

-- ---- how a row is found

-- places of a set came to a list: all, or some, and then the list has more than so many, each once
pub record Adds (most : ℕ) (set : NumberSet) (before after : List ℕ) (are_all : Bool) : Type 0 where
  pub all : are_all ≡ true → (q : ℕ) → is_in after q ≡ (is_in before q || set q)
  pub among : (q : ℕ) → is_in after q ≡ true → (is_in before q || set q) ≡ true
  pub rising : are_all ≡ false → IsStrictlyIncreasing after
  pub more : are_all ≡ false → most < length after

-- a list has these places, unless there are more than so many: then it has more, too
pub record IsFound (most : ℕ) (places found : List ℕ) : Type 0 where
  pub all : length found ≤ most → found ≡ places
  pub more : most < length found → most < length places

-- where a name is found
abbrev pub AreCandidates : IndexView → List ℕ → Candidates → Type 0
AreCandidates index name candidates = (candidates.named.now ≡ places_of index name) × (candidates.provided.now ≡ provided_at index name)

-- ---- how those within a bound are found

-- whether a package has a version under a name, or provides one, that passes a test
abbrev pub offers : List ℕ → List ℕ → (List ℕ → Bool) → PackageView → Bool
offers arch name test q =
    (is_named name q && test q.version) || list_any (λ entry. is_providing arch name entry && option_map_or test (provided_version entry) false) q.provides

abbrev pub is_offer : ℕ → (List ℕ → Bool) → Offer → Bool
is_offer q test o = o.place == q && test o.version.now

-- all versions of a name, each with the place of a package that has or provides it
abbrev pub AreOffers : IndexView → List ℕ → List Offer → Type 0
AreOffers index name list = (q : ℕ) (test : List ℕ → Bool)
    → list_any (is_offer q test) list ≡ option_map_or (offers index.arch name test) (slice_get index.packages q) false

-- by names: all versions of each
abbrev pub AreSorted : {S : Type 0} → IndexView → HashMap (Vec ℕ Global) Versions S → Type 0
AreSorted index sorted = (name : List ℕ) → IfSome (get_by (λ key. bytes_eq name key.items) sorted) (λ versions. AreOffers index name versions.offers.items)

-- those that pass a test are in front, so many of them
abbrev pub IsPoint : {A : Type 0} → (A → Bool) → List A → ℕ → Type 0
IsPoint test xs count = IsPartitionPoint (λ x. test x ≡ true) (λ x. test x ≡ false) xs count

-- ---- how it is remembered

-- the row with a number is that of an atom
abbrev pub HasRow : IndexView → Role → List (Option (List ℕ)) → ℕ → AtomText → Type 0
HasRow index role rows number atom = (number < length rows) × (slice_index_or rows number None ≡ row_as role index (atom ∷ []))

-- what is remembered of an atom, if anything is, is the number of its row
abbrev pub IsMet : IndexView → Role → List (Option (List ℕ)) → Option Met → Type 0
IsMet index role rows None = Unit {0}
IsMet index role rows (Some met) = HasRow index role rows met.row (atom_view met.atom.now)

abbrev pub AreMet : IndexView → Role → List (Option (List ℕ)) → Memo → Type 0
AreMet index role rows memo = All (IsMet index role rows) memo.slots.items

-- the rows of one role, in the order in which they were asked for in an index
pub record MadeRows : Type 0 where
  pub index : IndexView
  pub role : Role
  pub rows : List (Option (List ℕ))
