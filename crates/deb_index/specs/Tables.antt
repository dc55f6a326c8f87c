-- Tables from names to the items that were put down under each, names and items in the order of their coming; and how large an index is.
use Rattle.std.specs.Prelude.{◌≡◌, ◌<◌, ◌≤◌, ◌+◌, ◌^◌, ℕ, List, [], ◌∷◌, Vec, get_or, map, filter, nat_eq, length, sum_by, Option, Some, None, if◌then◌else◌}
use Prim.Native.Nat.{suc}
use Rattle.std.specs.Hash.FoldHasher.{finish, initial, write}
use Rattle.std.specs.HashMap.{HashMap, get, get_by}
use Rattle.std.specs.Option.{option_map}
use Rattle.std.specs.Str.{bytes_eq}
use Rattle.std.specs.declared.alloc.Global.{Global}
use Rattle.deb_index.specs.Packages.{PackageView, IndexView, needs, aparts}

-- the place of a name
abbrev pub number_in : List ℕ → List (List ℕ) → Option ℕ
number_in name [] = None
number_in name (k ∷ ks) = if bytes_eq name k then Some 0 else option_map (λ i. suc i) (number_in name ks)

-- what std's hasher makes of a name
abbrev pub hash_of : List ℕ → ℕ
hash_of name = finish (write initial name)

-- the numbers of some names, in two maps: by a hash that of the first name with it, and by the names those of all others
pub record AreNumbered {S T : Type 0} (names : List (List ℕ)) (firsts : HashMap ℕ ℕ S) (others : HashMap (Vec ℕ Global) ℕ T) : Type 0 where
  pub unknown : (name : List ℕ) → get nat_eq firsts (hash_of name) ≡ None → (number_in name names ≡ None) × (get_by (λ key. bytes_eq name key.items) others ≡ None)
  pub within : (name : List ℕ) (i : ℕ) → get nat_eq firsts (hash_of name) ≡ Some i → i < length names
  pub known : (name : List ℕ) (i : ℕ) → get nat_eq firsts (hash_of name) ≡ Some i
      → number_in name names ≡ if bytes_eq name (get_or names i []) then Some i else get_by (λ key. bytes_eq name key.items) others

-- the items under a name
unfoldable pub items_of : {T : Type 0} → List ℕ → List (List ℕ × T) → List T
items_of name pairs = map (λ p. p.1) (filter (λ p. bytes_eq name p.0) pairs)

-- how many groups and entries a package has
abbrev pub asked_count : PackageView → ℕ
asked_count p = length (needs p) + length (aparts p)

-- how many groups and entries the packages of an index have at most, in all: a byte of the texts for each, and what the fields of each stanza may have more
abbrev pub asked_limit : ℕ
asked_limit = 2164260866

-- the entries of Provides are numbered by 32 bits
abbrev pub IsSmall : PackageView → Type 0
IsSmall p = length p.provides < 2 ^ 32

-- there is room for what a stanza reads as
abbrev pub HasRoom : IndexView → Option PackageView → Type 0
HasRoom index None = Unit {0}
HasRoom index (Some p) = IsSmall p × (sum_by asked_count index.packages + asked_count p ≤ asked_limit)
