-- Having some numbers, as a property of sets.
use Rattle.std.specs.Prelude.{ℕ, ◌&&◌, ◌||◌, leb, ltb}
use Rattle.number_sets.specs.Sets.{NumberSet, IsWithin, IsUpward}

abbrev pub HasAll : NumberSet → NumberSet → Type 0
HasAll numbers = IsWithin numbers

-- these, and those from the one on below the other
abbrev pub or_idle : NumberSet → ℕ → ℕ → NumberSet
or_idle numbers rest idle number = numbers number || (leb rest number && ltb number idle)

-- a larger set has them too
pub having_upward : (numbers : NumberSet) → IsUpward (HasAll numbers)
having_upward numbers a b within has number is_in = within number (has number is_in)
