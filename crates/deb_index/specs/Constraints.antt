-- The constraints of an index, in their order, and when a set of places meets one; places of which at most one is in a set.
use Rattle.std.specs.Prelude.{◌≡◌, ℕ, ◌<◌, Bool, true, false, not, ◌&&◌, ◌||◌, ◌==◌, nat_le, List, ◌++◌, length, map, count_by, slice_get}
use Rattle.std.specs.List.{list_any, flat_map, range_with_len}
use Rattle.std.specs.Option.{option_map_or}
use Rattle.deb_index.specs.declared.constraint.Constraint.{Constraint}
use Rattle.deb_index.specs.declared.constraint.Constraint.TheVariants.{Essential, Need, Apart, Only}
use Rattle.deb_index.specs.Packages.{IndexView, names, name_at, is_named, places_of, essential_names, needs_at, aparts_at, need_at, apart_at, package_at}
use Rattle.deb_index.specs.Meets.{meets_at, meets_need_at, satisfiers, group_satisfiers}
use Rattle.number_sets.specs.Sets.{members_of, NumberSet}

-- the numbers below a limit, rising
abbrev pub below : ℕ → List ℕ
below limit = range_with_len 0 limit

-- what the package at a place asks for: its groups, then its entries
abbrev pub constraints_at : IndexView → ℕ → List Constraint
constraints_at index p = map (λ j. Need p j) (below (length (needs_at index p))) ++ map (λ j. Apart p j) (below (length (aparts_at index p)))

-- all constraints: of the essential names, of the packages by place, and that no name stands twice
unfoldable pub constraints_of : IndexView → List Constraint
constraints_of index =
    map (λ n. Essential n) (essential_names index) ++ flat_map (constraints_at index) (below (length index.packages))
    ++ map (λ n. Only n) (below (length (names index)))

-- the constraint speaks of names, packages, groups and entries that the index has
abbrev pub IsOfIndex : IndexView → Constraint → Type 0
IsOfIndex index (Essential n) = n < length (names index)
IsOfIndex index (Need p j) = (p < length index.packages) × (j < length (needs_at index p))
IsOfIndex index (Apart p j) = (p < length index.packages) × (j < length (aparts_at index p))
IsOfIndex index (Only n) = n < length (names index)

-- the package at place q has the name with a number
abbrev pub has_name : IndexView → ℕ → ℕ → Bool
has_name index q n = option_map_or (is_named (name_at index n)) (slice_get index.packages q) false

-- the package at place q meets an alternative of group j of the package at place p
abbrev pub answers : IndexView → ℕ → ℕ → ℕ → Bool
answers index p j q = list_any (meets_need_at index q) (need_at index p j)

-- the package at place q meets entry j of the package at place p
abbrev pub hits : IndexView → ℕ → ℕ → ℕ → Bool
hits index p j q = meets_at index q (apart_at index p j)

-- when a set of places meets a constraint: some member has the essential name; a member's group is answered by a member; a member's entry
-- hits no member but itself; no two members have the name
abbrev pub Holds : IndexView → (ℕ → Bool) → Constraint → Type 0
Holds index set (Essential n) = (q : ℕ) × (set q ≡ true) × (has_name index q n ≡ true)
Holds index set (Need p j) = set p ≡ true → (q : ℕ) × (set q ≡ true) × (answers index p j q ≡ true)
Holds index set (Apart p j) = set p ≡ true → (q : ℕ) → set q ≡ true → hits index p j q ≡ true → q ≡ p
Holds index set (Only n) = (q r : ℕ) → set q ≡ true → set r ≡ true → has_name index q n ≡ true → has_name index r n ≡ true → q ≡ r

-- the same as a test, which computes
unfoldable pub is_holding : IndexView → (ℕ → Bool) → Constraint → Bool
is_holding index set (Essential n) = list_any set (places_of index (name_at index n))
is_holding index set (Need p j) = not (set p) || list_any set (group_satisfiers index (need_at index p j))
is_holding index set (Apart p j) = not (set p) || not (list_any (λ q. set q && not (q == p)) (satisfiers index (apart_at index p j)))
is_holding index set (Only n) = nat_le (count_by set (places_of index (name_at index n))) 1

-- none of the owners is in the set together with another one of these places
abbrev pub AreApart : List ℕ → List ℕ → NumberSet → Type 0
AreApart owners places set = (q r : ℕ) → members_of owners q ≡ true → members_of places r ≡ true → set q ≡ true → set r ≡ true → q ≡ r

-- at most one of these places is in the set
abbrev pub HasOneOf : List ℕ → NumberSet → Type 0
HasOneOf places = AreApart places places

-- at most one package of the name of the package at a place is in the set
abbrev pub HasOneVersion : IndexView → NumberSet → ℕ → Type 0
HasOneVersion index set place = HasOneOf (places_of index (package_at index place).name) set

-- no entry of the place hits another one, and no other one has its name
pub record IsAlone (index : IndexView) (place : ℕ) : Type 0 where
  pub hits_none : (j : ℕ) → j < length (aparts_at index place) → (q : ℕ) → hits index place j q ≡ true → q ≡ place
  pub only : (q : ℕ) → members_of (places_of index (package_at index place).name) q ≡ true → q ≡ place
