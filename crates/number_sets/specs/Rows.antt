-- Rows of numbers, of which some are left out.
use Rattle.std.specs.Prelude.{◌≡◌, ◌≤◌, ◌-◌, ℕ, Bool, List, [], ◌∷◌, length, map, slice_index_or, take, drop, Option, Some, None, if◌then◌else◌}

-- the rows that lie in some numbers, by where they end, of which the first begins at a given place; those that are not kept are left out
abbrev pub rows_from : ℕ → List ℕ → List ℕ → List Bool → List (Option (List ℕ))
rows_from start places [] kept = []
rows_from start places (end ∷ ends) [] = []
rows_from start places (end ∷ ends) (k ∷ kept) = (if k then Some (take (end - start) (drop start places)) else None) ∷ rows_from end places ends kept

-- where the rows of so many places end: none before it begins, and the last where the places do
abbrev pub AreEnds : ℕ → ℕ → List ℕ → Type 0
AreEnds start count [] = start ≡ count
AreEnds start count (end ∷ ends) = (start ≤ end) × AreEnds end count ends

-- rows of a store by their numbers in it
abbrev pub rows_by : List (Option (List ℕ)) → List ℕ → List (Option (List ℕ))
rows_by store numbers = map (λ n. slice_index_or store n None) numbers
