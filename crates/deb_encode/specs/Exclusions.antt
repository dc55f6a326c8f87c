-- Clauses in the making, what a set says of the entries of a place, and what is gathered of places that may not stand together.
use Rattle.std.specs.Prelude.{◌≡◌, ℕ, ◌<◌, Bool, true, ◌||◌, nat_le, List, All, length, ◌⊎◌, ◌≤◌, false, Contains, slice_index, slice_index_or}
use Rattle.deb_index.specs.declared.constraint.Constraint.TheVariants.{Essential, Apart}
use Rattle.deb_index.specs.Packages.{IndexView, essential_names, aparts_at, apart_at, package_at, names, name_at}
use Rattle.deb_index.specs.Meets.{satisfiers}
use Rattle.deb_index.specs.Constraints.{Holds, IsAlone}
use Rattle.sat_solve.specs.declared.clause.Lit.{Lit}
use Rattle.number_sets.specs.Sets.{NumberSet, members_of}
use Rattle.sat_solve.specs.Clauses.{clause_holds}
use Rattle.std.specs.Str.{bytes_eq}
use Rattle.deb_encode.specs.declared.gathered.Entry.{Entry}

-- a clause was made to hold where a test passes, too: it does so by its literals, or it holds anyway
pub record Widens (test : NumberSet → Bool) (count : ℕ) (before after : List Lit) (anyway : Bool) : Type 0 where
  pub in_range : All (λ literal. literal.var < count) before → All (λ literal. literal.var < count) after
  pub says : (vars : NumberSet) → (anyway || clause_holds vars after) ≡ (clause_holds vars before || test vars)

-- how many packages a narrow entry hits at most
abbrev pub narrow_limit : ℕ
narrow_limit = 64

-- an entry of the package at a place hits few packages
abbrev pub is_narrow : IndexView → ℕ → ℕ → Bool
is_narrow index place j = nat_le (length (satisfiers index (apart_at index place j))) narrow_limit

-- some package of each essential name is in the set
abbrev pub MeetsEssentials : IndexView → NumberSet → Type 0
MeetsEssentials index set = (number : ℕ) → members_of (essential_names index) number ≡ true → Holds index set (Essential number)

-- each entry of the package at a place holds
abbrev pub MeetsEntries : IndexView → NumberSet → ℕ → Type 0
MeetsEntries index set place = (j : ℕ) → j < length (aparts_at index place) → Holds index set (Apart place j)

-- each that hits few packages does
abbrev pub MeetsNarrow : IndexView → NumberSet → ℕ → Type 0
MeetsNarrow index set place = (j : ℕ) → j < length (aparts_at index place) → is_narrow index place j ≡ true → Holds index set (Apart place j)

-- a list has just the numbers of a set
abbrev pub Lists : NumberSet → List ℕ → Type 0
Lists set list = (q : ℕ) → members_of list q ≡ set q

-- none of these places is forced
abbrev pub AreNotIn : List ℕ → List ℕ → Type 0
AreNotIn forced places = (q : ℕ) → members_of places q ≡ true → members_of forced q ≡ false

-- the list has the numbers of those candidates that are among these places
pub record AreNumbersOf (candidates places list : List ℕ) : Type 0 where
  pub below : All (λ number. number < length candidates) list
  pub among : (number : ℕ) → members_of list number ≡ true → members_of places (slice_index candidates number) ≡ true
  pub all : (number : ℕ) → number < length candidates → members_of places (slice_index candidates number) ≡ true → members_of list number ≡ true

-- the numbers are of names of these places, and of each name but those whose only package stands alone
pub record AreNamesOf (index : IndexView) (places : NumberSet) (numbers : List ℕ) : Type 0 where
  pub below : All (λ number. number < length (names index)) numbers
  pub among : (number : ℕ) → members_of numbers number ≡ true → (q : ℕ) × (places q ≡ true) × (name_at index number ≡ (package_at index q).name)
  pub all : (q : ℕ) → places q ≡ true → IsAlone index q
      ⊎ ((number : ℕ) × (members_of numbers number ≡ true) × (name_at index number ≡ (package_at index q).name))

-- the package at a place has the name with a number
abbrev pub is_of_name : IndexView → ℕ → NumberSet
is_of_name index name q = bytes_eq (name_at index name) (package_at index q).name

-- an entry of the index that is not narrow
pub record IsWide (index : IndexView) (entry : Entry) : Type 0 where
  pub of_place : entry.place < length index.packages
  pub numbered : entry.number < length (aparts_at index entry.place)
  pub wide : is_narrow index entry.place entry.number ≡ false

-- what an entry says
abbrev pub EntryHolds : IndexView → NumberSet → Entry → Type 0
EntryHolds index set entry = Holds index set (Apart entry.place entry.number)

-- wide entries came to a list: all that are asked for, but for those of places that stand alone
pub record AddsWide (index : IndexView) (IsAsked : ℕ → ℕ → Type 0) (before after : List Entry) : Type 0 where
  pub wide : All (IsWide index) before → All (IsWide index) after
  pub kept : (entry : Entry) → Contains before entry → Contains after entry
  pub all : (q j : ℕ) → IsAsked q j → j < length (aparts_at index q) → is_narrow index q j ≡ false → IsAlone index q ⊎ Contains after (record { place = q; number = j })

-- the entry at an index of a list
abbrev pub entry_at : List Entry → ℕ → Entry
entry_at entries k = slice_index_or entries k (record { place = 0; number = 0 })

-- entries of one atom that stand together in a list, and the places whose they are
pub record IsRun (index : IndexView) (entries : List Entry) (start end : ℕ) (owners : List ℕ) : Type 0 where
  pub one_atom : (k : ℕ) → start ≤ k → k < end
      → apart_at index (entry_at entries k).place (entry_at entries k).number ≡ apart_at index (entry_at entries start).place (entry_at entries start).number
  pub owned : (k : ℕ) → start ≤ k → k < end → members_of owners (entry_at entries k).place ≡ true
  pub only : (q : ℕ) → members_of owners q ≡ true → (k : ℕ) × (start ≤ k) × (k < end) × ((entry_at entries k).place ≡ q)
