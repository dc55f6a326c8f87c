-- Which packages meet an atom.
use Rattle.std.specs.Prelude.{ℕ, Bool, true, false, not, ◌&&◌, ◌||◌, List, map, Option, Some, None, slice_get}
use Rattle.std.specs.List.{list_any, enumerate_from, flat_map}
use Rattle.std.specs.Option.{option_map, option_map_or}
use Rattle.std.specs.Str.{bytes_eq}
use Rattle.deb_relation.specs.declared.bound.Op.{Op}
use Rattle.deb_relation.specs.VersionOrder.{bound_holds}
use Rattle.deb_relation.specs.Relationship.{AtomText, is_any, is_usable}
use Rattle.deb_index.specs.Packages.{PackageView, IndexView, places_where}

-- whether a version, if there is one, meets a bound, if there is one
abbrev pub meets_bound : Option (List ℕ) → Option (Op × List ℕ) → Bool
meets_bound version None = true
meets_bound None (Some bound) = false
meets_bound (Some version) (Some bound) = bound_holds version bound.0 bound.1

-- what an entry of Provides provides a version of
abbrev pub provided_version : AtomText → Option (List ℕ)
provided_version entry = option_map (λ b. b.1) entry.bound

-- by its own name and version
abbrev pub meets_itself : PackageView → AtomText → Bool
meets_itself q atom = bytes_eq atom.name q.name && meets_bound (Some q.version) atom.bound

-- by an entry of its Provides
abbrev pub entry_meets : List ℕ → AtomText → AtomText → Bool
entry_meets arch atom entry = is_usable arch entry.qualifier && bytes_eq atom.name entry.name && meets_bound (provided_version entry) atom.bound

-- whether a package meets an atom
unfoldable pub meets : List ℕ → PackageView → AtomText → Bool
meets arch q atom = is_usable arch atom.qualifier && (meets_itself q atom || list_any (entry_meets arch atom) q.provides)

-- whether a package may stand for an alternative of a need: with the qualifier `any` only one that allows it
abbrev pub allows : PackageView → AtomText → Bool
allows q atom = not (is_any atom.qualifier) || q.multi_arch_allowed

-- whether a package meets an atom as an alternative of a need
unfoldable pub meets_need : List ℕ → PackageView → AtomText → Bool
meets_need arch q atom = meets arch q atom && allows q atom

-- the places of the packages that meet an atom, rising
abbrev pub satisfiers : IndexView → AtomText → List ℕ
satisfiers index atom = places_where (λ q. meets index.arch q atom) index.packages

-- those that meet it as an alternative of a need
abbrev pub need_satisfiers : IndexView → AtomText → List ℕ
need_satisfiers index atom = places_where (λ q. meets_need index.arch q atom) index.packages

-- the places of the packages that meet an alternative of a group
abbrev pub group_satisfiers : IndexView → List AtomText → List ℕ
group_satisfiers index group = places_where (λ q. list_any (meets_need index.arch q) group) index.packages

-- the entries of a package's Provides that provide a name
abbrev pub is_providing : List ℕ → List ℕ → AtomText → Bool
is_providing arch name entry = is_usable arch entry.qualifier && bytes_eq name entry.name

-- where a name is provided: places, and entries of the package there, rising
unfoldable pub provided_at : IndexView → List ℕ → List (ℕ × ℕ)
provided_at index name = flat_map (λ e. map (λ j. (e.0, j)) (places_where (is_providing index.arch name) e.1.provides)) (enumerate_from 0 index.packages)

-- whether the package at a place meets an atom
abbrev pub meets_at : IndexView → ℕ → AtomText → Bool
meets_at index p atom = option_map_or (λ q. meets index.arch q atom) (slice_get index.packages p) false

-- whether it meets the atom as an alternative of a need
abbrev pub meets_need_at : IndexView → ℕ → AtomText → Bool
meets_need_at index p atom = option_map_or (λ q. meets_need index.arch q atom) (slice_get index.packages p) false
