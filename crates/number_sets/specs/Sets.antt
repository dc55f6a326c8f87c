-- Sets of numbers and their order, and places in the order in which they came to a set.
use Rattle.std.specs.Prelude.{◌≡◌, ℕ, ◌<◌, ◌==◌, ◌&&◌, ltb, Bool, true, false, List, Some, length, slice_get, slice_index, ◌≤◌, ◌^◌, [], ◌∷◌, ◌++◌, if◌then◌else◌, All}
use Rattle.std.specs.List.{list_any, range_with_len, IsDistinct}

-- a set of numbers, as the test of its members
abbrev pub NumberSet : Type 0
NumberSet = ℕ → Bool

-- the set of the numbers that a list has
abbrev pub members_of : List ℕ → NumberSet
members_of numbers number = list_any (λ member. member == number) numbers

-- the two sets have the same numbers below this one
abbrev pub AgreeBelow : NumberSet → NumberSet → ℕ → Type 0
AgreeBelow a b number = (below : ℕ) → below < number → a below ≡ b below

-- a comes before b: at the least number where they differ, a lacks it
abbrev pub IsBefore : NumberSet → NumberSet → Type 0
IsBefore a b = (number : ℕ) × AgreeBelow a b number × (a number ≡ false) × (b number ≡ true)

-- the first of the sets with a property: it has it, and none that has it comes before
abbrev pub IsFirst : (NumberSet → Type 0) → NumberSet → Type 0
IsFirst P a = P a × ((b : NumberSet) → P b → IsBefore b a → ⊥)

-- each member of the one is a member of the other
abbrev pub IsWithin : NumberSet → NumberSet → Type 0
IsWithin a b = (number : ℕ) → a number ≡ true → b number ≡ true

-- a property of sets that a larger set has too
abbrev pub IsUpward : (NumberSet → Type 0) → Type 0
IsUpward P = (a b : NumberSet) → IsWithin a b → P a → P b

-- all numbers
abbrev pub all_of : NumberSet
all_of number = true

-- all numbers below the count
abbrev pub all_below : ℕ → NumberSet
all_below count number = ltb number count

-- each number that is marked has the property
abbrev pub MarksOnly : (ℕ → Type 0) → List Bool → Type 0
MarksOnly Property marks = (number : ℕ) → slice_get marks number ≡ Some true → Property number

-- the numbers that a list has at the indexes of a set
abbrev pub positions_of : List ℕ → NumberSet → NumberSet
positions_of numbers indexes number = list_any (λ index. indexes index && (slice_index numbers index == number)) (range_with_len 0 (length numbers))

-- the list with the place as its last, if it was not there
abbrev pub with_number : List ℕ → ℕ → List ℕ
with_number places place = if members_of places place then places else (places ++ place ∷ [])

-- the number at each place of the list is its position there
pub record IsNumbered (places numbers : List ℕ) : Type 0 where
  pub at : (k : ℕ) → k < length places → slice_get numbers (slice_index places k) ≡ Some k
  pub few : length numbers ≤ 2 ^ 32

-- places among that many, each once
pub record AreNumbers (count : ℕ) (places : List ℕ) : Type 0 where
  pub within : All (λ place. place < count) places
  pub once : IsDistinct ◌==◌ places

-- places came behind those that were there
pub record Grows (count : ℕ) (before after : List ℕ) : Type 0 where
  pub more : List ℕ
  pub appended : after ≡ before ++ more
  pub places : AreNumbers count before → AreNumbers count after
