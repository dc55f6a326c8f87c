-- Packages and the index that they make, without where they lie in memory.
use Rattle.std.specs.Prelude.{ℕ, Bool, false, ◌&&◌, ◌==◌, List, [], ◌∷◌, ◌++◌, map, filter, not, None, slice_index_or}
use Rattle.std.specs.List.{list_any, enumerate_from}
use Rattle.std.specs.Str.{bytes_eq}
use Rattle.deb_relation.specs.Relationship.{atom_view, AtomText}
use Rattle.deb_index.specs.declared.package.Package.{Package}

-- a package as its stanza gives it
pub record PackageView : Type 0 where
  pub name : List ℕ
  pub version : List ℕ
  pub architecture : List ℕ
  pub essential : Bool
  pub multi_arch_allowed : Bool
  pub pre_depends : List (List AtomText)
  pub depends : List (List AtomText)
  pub conflicts : List AtomText
  pub breaks : List AtomText
  pub provides : List AtomText

abbrev pub package_view : Package → PackageView
package_view p = record {
  name = p.name;
  version = p.version;
  architecture = p.architecture;
  essential = p.essential;
  multi_arch_allowed = p.multi_arch_allowed;
  pre_depends = p.pre_depends;
  depends = p.depends;
  conflicts = map atom_view p.conflicts.items;
  breaks = map atom_view p.breaks.items;
  provides = map atom_view p.provides.items;
}

-- an index: the checked architecture, the packages by place, whether names may be essential, and what was counted
pub record IndexView : Type 0 where
  pub arch : List ℕ
  pub packages : List PackageView
  pub with_essential : Bool
  pub stanzas : ℕ
  pub skipped : ℕ
  pub duplicates : ℕ
  pub foreground : ℕ

-- the groups that a package needs, and the entries that it stands apart from
abbrev pub needs : PackageView → List (List AtomText)
needs p = p.pre_depends ++ p.depends

abbrev pub aparts : PackageView → List AtomText
aparts p = p.conflicts ++ p.breaks

-- the package at a place; past the last place one without anything
abbrev pub no_package : PackageView
no_package = record {
  name = [];
  version = [];
  architecture = [];
  essential = false;
  multi_arch_allowed = false;
  pre_depends = [];
  depends = [];
  conflicts = [];
  breaks = [];
  provides = [];
}

abbrev pub package_at : IndexView → ℕ → PackageView
package_at index place = slice_index_or index.packages place no_package

-- the groups and the entries of the package at a place
abbrev pub needs_at : IndexView → ℕ → List (List AtomText)
needs_at index p = needs (package_at index p)

abbrev pub aparts_at : IndexView → ℕ → List AtomText
aparts_at index p = aparts (package_at index p)

-- group j of the package at a place, and its entry j; past the last one an empty group, and an atom of no name
abbrev pub no_atom : AtomText
no_atom = record { name = []; qualifier = None; bound = None }

abbrev pub need_at : IndexView → ℕ → ℕ → List AtomText
need_at index p j = slice_index_or (needs_at index p) j []

abbrev pub apart_at : IndexView → ℕ → ℕ → AtomText
apart_at index p j = slice_index_or (aparts_at index p) j no_atom

-- the first of each kind, where `same` tells whether two are of one kind
unfoldable pub first_of_each : {A : Type 0} → (A → A → Bool) → List A → List A
first_of_each same [] = []
first_of_each same (x ∷ xs) = x ∷ filter (λ y. not (same x y)) (first_of_each same xs)

-- the places of the elements that pass a test, rising
unfoldable pub places_where : {A : Type 0} → (A → Bool) → List A → List ℕ
places_where test xs = map (λ e. e.0) (filter (λ e. test e.1) (enumerate_from 0 xs))

-- a place is in a list
abbrev pub is_in : List ℕ → ℕ → Bool
is_in places q = list_any (λ place. place == q) places

-- the distinct names, in the order in which they first occur
abbrev pub names : IndexView → List (List ℕ)
names index = first_of_each bytes_eq (map (λ p. p.name) index.packages)

-- the name with a number
abbrev pub name_at : IndexView → ℕ → List ℕ
name_at index number = slice_index_or (names index) number []

abbrev pub is_named : List ℕ → PackageView → Bool
is_named name p = bytes_eq name p.name

-- the places of a name's packages
abbrev pub places_of : IndexView → List ℕ → List ℕ
places_of index name = places_where (is_named name) index.packages

-- a name is essential if a package of it is, where names may be essential
abbrev pub is_essential : IndexView → List ℕ → Bool
is_essential index name = index.with_essential && list_any (λ p. is_named name p && p.essential) index.packages

-- the numbers of the essential names
abbrev pub essential_names : IndexView → List ℕ
essential_names index = places_where (is_essential index) (names index)
