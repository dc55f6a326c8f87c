-- Lists that lie in one list, one behind the other, and where each of them ends.
use Rattle.std.specs.Prelude.{◌≡◌, ◌≤◌, ◌-◌, ℕ, List, [], ◌∷◌, drop, map, take}

-- the lists that lie in one, by where they end, of which the first begins at a given place
abbrev pub lists_from : {A : Type 0} → ℕ → List A → List ℕ → List (List A)
lists_from start xs [] = []
lists_from start xs (end ∷ ends) = take (end - start) (drop start xs) ∷ lists_from end xs ends

-- those of a whole list; where no ends are given, each element is a list of its own
abbrev pub lists_in : {A : Type 0} → List A → List ℕ → List (List A)
lists_in xs [] = map (λ x. x ∷ []) xs
lists_in xs (end ∷ ends) = lists_from 0 xs (end ∷ ends)

-- where the lists of so many elements end: none before it begins, and the last where the elements do
abbrev pub AreEnds : ℕ → ℕ → List ℕ → Type 0
AreEnds start count [] = start ≡ count
AreEnds start count (end ∷ ends) = (start ≤ end) × AreEnds end count ends

-- ends, if any are given, are those of so many elements
abbrev pub MayBeEnds : ℕ → List ℕ → Type 0
MayBeEnds count [] = Unit {0}
MayBeEnds count (end ∷ ends) = AreEnds 0 count (end ∷ ends)
