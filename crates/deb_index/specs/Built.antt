-- An index while it is read, piece by piece or in parts, and once it is whole: what is kept beside its packages.
use Rattle.std.specs.Prelude.{◌≡◌, ◌≤◌, ◌+◌, ℕ, Bool, false, ◌&&◌, ◌||◌, List, [], map, find, length, sum_by, ◌≢◌, ◌⊎◌, ◌*◌, ◌++◌, Option, Ok, Err, ◌<◌, ◌∷◌, IfSome}
use Rattle.std.specs.Option.{option_map_or}
use Rattle.std.specs.List.{list_any, AllByRecursion, flat_map}
use Rattle.std.specs.Str.{bytes_eq}
use Rattle.deb_index.specs.declared.duplicates.PackageKey.{PackageKey}
use Rattle.deb_index.specs.declared.catalog.Catalog.{Catalog}
use Rattle.deb_index.specs.declared.duplicates.Draft.{Draft}
use Rattle.deb_index.specs.declared.links.Links.{Links}
use Rattle.deb_index.specs.declared.names.Names.{Names}
use Rattle.deb_index.specs.Packages.{PackageView, IndexView, essential_names, is_named, package_view}
use Rattle.deb_index.specs.Reading.{same_package, stanza_limit, byte_limit, collected, index_of, index_of_both, readings, reading_view, with_reading}
use Rattle.deb_index.specs.Links.{IsLinked}
use Rattle.deb_index.specs.Names.{AreNumbers, IsNaming, provided_places}
use Rattle.deb_index.specs.Tables.{IsSmall, asked_count, asked_limit, HasRoom}
use Rattle.deb_control.specs.Stanzas.{IsClosed, stanzas_of, size_of}
use Rattle.deb_index.specs.declared.error.BothError.{BothError}
use Rattle.deb_index.specs.declared.error.BothError.TheVariants as both
use Rattle.deb_index.specs.declared.error.IndexError.{IndexError}
use Rattle.deb_index.specs.declared.error.IndexError.TheVariants.{Memory}
use Rattle.deb_index.specs.declared.parts.Part.{Part}

-- what contracts see of a catalog
abbrev pub catalog_view : Catalog → IndexView
catalog_view c = record {
  arch = c.arch.items;
  packages = map package_view c.packages.items;
  with_essential = c.with_essential;
  stanzas = c.stanzas;
  skipped = c.skipped;
  duplicates = c.duplicates;
  foreground = c.foreground;
}

abbrev pub draft_view : Draft → IndexView
draft_view d = catalog_view d.catalog

-- what tells packages apart: the name and the text of the version
abbrev pub package_key : PackageView → List ℕ × List ℕ
package_key p = (p.name, p.version)

abbrev pub key_view : PackageKey → List ℕ × List ℕ
key_view k = (k.name.items, k.version.items)

abbrev pub same_key : List ℕ × List ℕ → List ℕ × List ℕ → Bool
same_key k l = bytes_eq k.0 l.0 && bytes_eq k.1 l.1

-- a set has just these keys
abbrev pub HasKeysOf : List PackageKey → List (List ℕ × List ℕ) → Type 0
HasKeysOf kept keys = (key : List ℕ × List ℕ) → list_any (same_key key) (map key_view kept) ≡ list_any (same_key key) keys

-- a package is known by the version of the first package of its name, or by the key of a later one
abbrev pub is_known : List PackageView → List (List ℕ × List ℕ) → PackageView → Bool
is_known packages later p = option_map_or (λ q. bytes_eq q.version p.version) (find (is_named p.name) packages) false
    || list_any (same_key (package_key p)) later

abbrev pub IsKnown : List PackageView → List (List ℕ × List ℕ) → Type 0
IsKnown packages later = (p : PackageView) → list_any (λ q. same_package q p) packages ≡ is_known packages later p

-- each stanza is counted once, and all numbers are small
pub record IsCounted (index : IndexView) : Type 0 where
  pub counted : length index.packages + index.skipped + index.duplicates ≡ index.stanzas
  pub front : index.foreground ≤ length index.packages
  pub few : index.stanzas ≤ stanza_limit
  pub small : AllByRecursion IsSmall index.packages
  pub few_asked : sum_by asked_count index.packages ≤ asked_limit

-- an index while it is read: the names of its packages, their numbers, and the keys of the packages that are not the first of their name
pub record IsBuilt (d : Draft) : Type 0 where
  pub counts : IsCounted (draft_view d)
  pub numbered : AreNumbers (draft_view d).packages d.catalog.numbers.items
  pub named : IsNaming (draft_view d).packages [] d.catalog.names
  pub known : IsKnown (draft_view d).packages (map key_view d.later.keys)

-- an index that lacks its rows: all names, their numbers, and the essential ones
pub record IsNamed (c : Catalog) (essential : List ℕ) : Type 0 where
  pub counts : IsCounted (catalog_view c)
  pub numbered : AreNumbers (catalog_view c).packages c.numbers.items
  pub named : IsNaming (catalog_view c).packages (provided_places (catalog_view c).arch (catalog_view c).packages) c.names
  pub essentials : essential ≡ essential_names (catalog_view c)

-- an index that is whole: the same, and the rows
pub record IsWhole (c : Catalog) (essential : List ℕ) (links : Links) : Type 0 where
  pub kept : IsNamed c essential
  pub linked : IsLinked (catalog_view c) (catalog_view c).packages links

-- an index of which nothing but the architecture and the packages is asked
abbrev pub looked_up : List ℕ → List PackageView → IndexView
looked_up arch packages = record { arch = arch; packages = packages; with_essential = false; stanzas = 0; skipped = 0; duplicates = 0; foreground = 0 }

-- the names are those that the packages have or provide
pub record IsLookedUp (arch : List ℕ) (packages : List PackageView) (names : Names) : Type 0 where
  pub named : IsNaming packages (provided_places arch packages) names
  pub few : length packages ≤ stanza_limit
  pub few_asked : sum_by asked_count packages ≤ asked_limit

-- the index so far, and how many bytes of its text were read
pub record FrontView : Type 0 where
  pub index : IndexView
  pub size : ℕ

abbrev pub front_of : IndexView → ℕ → FrontView
front_of index size = record { index = index; size = size }

-- the index so far is that of this text, which is what was read
pub record IsFrontOf (arch : List ℕ) (with_essential : Bool) (text : List ℕ) (front : FrontView) : Type 0 where
  pub read : List (Option PackageView)
  pub reads : readings arch 0 0 (stanzas_of text) ≡ Ok read
  pub is_index : front.index ≡ collected arch with_essential read
  pub sized : front.size ≡ length text

-- with a piece more it is the index of the text and the piece, where no stanza goes on over the text's end
abbrev pub Accepts : FrontView → List ℕ → FrontView → Type 0
Accepts front piece next = (arch : List ℕ) (with_essential : Bool) (text : List ℕ) → IsClosed text → IsFrontOf arch with_essential text front
    → IsFrontOf arch with_essential (text ++ piece) next

-- the fault is that of each text that goes on with the piece, where no stanza goes on over the piece's end, or nothing stands behind it
abbrev pub Refuses : FrontView → List ℕ → IndexError → Type 0
Refuses front piece error = error ≢ Memory → (arch : List ℕ) (with_essential : Bool) (text more : List ℕ) → IsClosed text
    → IsFrontOf arch with_essential text front
    → IsClosed (text ++ piece) ⊎ (more ≡ []) → index_of (text ++ piece ++ more) arch with_essential ≡ Err error

-- what was read and a background make this index
abbrev pub Finishes : FrontView → List ℕ → IndexView → Type 0
Finishes front background index = (arch : List ℕ) (with_essential : Bool) (text : List ℕ) → IsFrontOf arch with_essential text front
    → index_of_both text background arch with_essential ≡ Ok index

-- what was read and a background have this fault
abbrev pub FailsBehind : FrontView → List ℕ → BothError → Type 0
FailsBehind front background error = error ≢ both.Memory → (arch : List ℕ) (with_essential : Bool) (text : List ℕ) → IsFrontOf arch with_essential text front
    → index_of_both text background arch with_essential ≡ Err error

-- there is room for what is left of a text and for a background: what was read asks for little more than it has bytes
pub record IsWithin (front : FrontView) : Type 0 where
  pub few : front.index.stanzas ≤ stanza_limit
  pub short : front.size ≤ byte_limit
  pub room : sum_by asked_count front.index.packages ≤ front.size + 4 * front.index.stanzas

abbrev pub part_stanzas : Part → List (List (List ℕ))
part_stanzas part = stanzas_of part.text.now

-- what is known of a part beforehand is what its stanzas read as, wherever they stand
abbrev pub IsForeseen : List ℕ → Part → Type 0
IsForeseen arch part = IfSome part.found (λ found. readings arch 0 0 (part_stanzas part) ≡ Ok (map reading_view found.items))

-- the parts of a text have its stanzas, in order
pub record ArePartsOf (arch text : List ℕ) (parts : List Part) : Type 0 where
  pub stanzas : flat_map part_stanzas parts ≡ stanzas_of text
  pub short : AllByRecursion (λ part. length part.text.now ≤ length text) parts
  pub foreseen : AllByRecursion (IsForeseen arch) parts

-- there is room for all that some stanzas may ask for: a byte of a stanza for each group and entry, and four more for each stanza
abbrev pub HasRoomFor : IndexView → List (List (List ℕ)) → Type 0
HasRoomFor index stanzas = sum_by asked_count index.packages + sum_by size_of stanzas ≤ 2 * (byte_limit + 1) + 4 * index.stanzas

-- there is room for what stanzas read as, one after the other
abbrev pub HaveRoom : IndexView → List (Option PackageView) → Type 0
HaveRoom index [] = Unit {0}
HaveRoom index (r ∷ rs) = (index.stanzas < stanza_limit) × HasRoom index r × HaveRoom (with_reading index r) rs
