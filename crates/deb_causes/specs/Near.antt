-- What an index has near the needs that no package meets: packages of their names, and names that differ in numbers alone.
use Rattle.std.specs.Prelude.{ℕ, ◌==◌, Bool, not, ◌&&◌, ◌||◌, List, [], ◌∷◌, map, filter, length, take, if◌then◌else◌, ◌≡◌, true, All, IfSome}
use Rattle.std.specs.Char.{is_ascii_digit}
use Rattle.std.specs.List.{flat_map, join_by, list_any, slice_split, list_all}
use Rattle.std.specs.Str.{bytes_eq}
use Rattle.deb_relation.specs.Relationship.{atom_view, AtomText, is_usable}
use Rattle.deb_index.specs.declared.constraint.Constraint.{Constraint}
use Rattle.deb_index.specs.declared.constraint.Constraint.TheVariants.{Essential, Need, Apart, Only}
use Rattle.deb_index.specs.Meets.{is_providing, need_satisfiers}
use Rattle.deb_index.specs.Packages.{IndexView, PackageView, first_of_each, is_named, need_at, package_at, package_view, places_where}
use Rattle.deb_causes.specs.declared.near.NearMiss.{NearMiss}
use Rattle.std.specs.HashMap.{get_by, keys}
use Rattle.deb_causes.specs.declared.similar.Similar.{Similar}
use Rattle.deb_causes.specs.declared.similar.Told.{Told}

-- ---- near misses

-- the alternatives of a need
unfoldable pub alternatives : IndexView → Constraint → List AtomText
alternatives index (Essential name) = []
alternatives index (Need place number) = need_at index place number
alternatives index (Apart place number) = []
alternatives index (Only name) = []

-- one of the atoms has the name
abbrev pub is_one_of : List AtomText → List ℕ → Bool
is_one_of atoms name = list_any (λ atom. bytes_eq atom.name name) atoms

-- the entry provides the name of one of them
abbrev pub provides_one : List ℕ → List AtomText → AtomText → Bool
provides_one arch atoms entry = is_usable arch entry.qualifier && is_one_of atoms entry.name

-- the package has the name, or an entry of its Provides provides it
abbrev pub is_near : List ℕ → PackageView → AtomText → Bool
is_near arch deb atom = is_named atom.name deb || list_any (is_providing arch atom.name) deb.provides

-- a package that comes near: it has a name itself, and no entry is told; or these entries of its Provides have one
pub record NearMissView : Type 0 where
  pub deb : PackageView
  pub provides : List AtomText

abbrev pub near_view : NearMiss → NearMissView
near_view miss = record { deb = package_view miss.deb.now; provides = map (λ entry. atom_view entry.now) miss.provides.items }

-- what is told of a package that comes near
unfoldable pub near_miss : List ℕ → List AtomText → PackageView → NearMissView
near_miss arch atoms deb = record { deb = deb; provides = if is_one_of atoms deb.name then [] else filter (provides_one arch atoms) deb.provides }

abbrev pub near_miss_at : IndexView → List AtomText → ℕ → NearMissView
near_miss_at index atoms place = near_miss index.arch atoms (package_at index place)

-- the places of the packages that have or provide the name of one of the atoms
unfoldable pub near_places : IndexView → List AtomText → List ℕ
near_places index atoms = places_where (λ deb. list_any (is_near index.arch deb) atoms) index.packages

-- the packages of the index, by place, that have or provide the name of an alternative of a need among these constraints
unfoldable pub near_misses : IndexView → List Constraint → List NearMissView
near_misses index constraints = let atoms = flat_map (alternatives index) constraints in
    map (near_miss_at index atoms) (near_places index atoms)

-- ---- similar names

-- a byte of a version number: a digit or a dot
abbrev pub is_numeric : ℕ → Bool
is_numeric byte = is_ascii_digit byte || byte == 46

-- the word, which stands between hyphens of a name, is a sum that an interface is named by (libcoq-elpi-gwzp3): five letters, one of which is a digit at least
abbrev pub is_sum : List ℕ → Bool
is_sum word = length word == 5 && list_any is_ascii_digit word

-- what is left of a word without its numbers
abbrev pub stem_of_word : List ℕ → List ℕ
stem_of_word word = if is_sum word then [] else filter (λ byte. not (is_numeric byte)) word

-- what is left of a name without its numbers, word by word
unfoldable pub stem : List ℕ → List ℕ
stem name = join_by stem_of_word (45 ∷ []) (slice_split (λ byte. byte == 45) name)

-- hyphens alone are no stem
abbrev pub is_stem : List ℕ → Bool
is_stem left = list_any (λ byte. not (byte == 45)) left

-- the name has this stem
abbrev pub has_stem : List ℕ → List ℕ → Bool
has_stem one name = is_stem one && bytes_eq one (stem name)

-- the name of a package, and those that it provides
abbrev pub names_of : List ℕ → PackageView → List (List ℕ)
names_of arch deb = deb.name ∷ map (λ entry. entry.name) (filter (λ entry. is_usable arch entry.qualifier) deb.provides)

-- how many similar names are told
abbrev pub similar_limit : ℕ
similar_limit = 10

-- the first of these names that have a stem, each once
abbrev pub first_with_stem : List (List ℕ) → List ℕ → List (List ℕ)
first_with_stem names one = take similar_limit (first_of_each bytes_eq (filter (has_stem one) names))

-- the first names of packages and of what they provide, in the order of the index, that differ in numbers alone from a name
abbrev pub similar_to : IndexView → List ℕ → List (List ℕ)
similar_to index name = first_with_stem (flat_map (names_of index.arch) index.packages) (stem name)

-- the names that are similar to those of the alternatives of a need among these constraints, alternative by alternative, and are none of theirs
unfoldable pub similar_names : IndexView → List Constraint → List (List ℕ)
similar_names index constraints = let atoms = flat_map (alternatives index) constraints in
    take similar_limit (first_of_each bytes_eq (filter (λ name. not (is_one_of atoms name)) (flat_map (λ atom. similar_to index atom.name) atoms)))

-- the text is one of these
abbrev pub has_text : List (List ℕ) → List ℕ → Bool
has_text texts text = list_any (bytes_eq text) texts

-- the stems of the alternatives of all needs among the constraints are among these
abbrev pub AreSought : IndexView → List (List ℕ) → List Constraint → Type 0
AreSought index stems constraints = All (λ atom. has_text stems (stem atom.name) ≡ true) (flat_map (alternatives index) constraints)

-- the first of these names, each once, as many as are told
abbrev pub first_told : List (List ℕ) → List (List ℕ)
first_told names = take similar_limit (first_of_each bytes_eq names)

abbrev pub stems_in : Similar → List (List ℕ)
stems_in similar = map (λ key. key.items) (keys similar.lists)

-- by each stem, the first of these names that have it
abbrev pub IsFoundIn : List (List ℕ) → Similar → Type 0
IsFoundIn seen similar = (one : List ℕ) → IfSome (get_by (λ key. bytes_eq one key.items) similar.lists) (λ names. map (λ name. name.items) names.items ≡ first_with_stem seen one)

-- of all names of the index
abbrev pub IsSimilarOf : IndexView → Similar → Type 0
IsSimilarOf index similar = IsFoundIn (flat_map (names_of index.arch) index.packages) similar

-- the first of some names that aren't those of some atoms, and the set of all these
pub record IsTold (own : List AtomText) (seen : List (List ℕ)) (told : Told) : Type 0 where
  pub names_are : map (λ name. name.now) told.names.items ≡ first_told (filter (λ name. not (is_one_of own name)) seen)
  pub known_are : (name : List ℕ) → has_text (map (λ one. one.items) told.known.keys) name
      ≡ (is_one_of own name || has_text (map (λ one. one.now) told.names.items) name)

-- no package of the index meets any atom of the group
unfoldable pub is_missing : IndexView → List AtomText → Bool
is_missing index group = list_all (λ atom. length (need_satisfiers index atom) == 0) group
