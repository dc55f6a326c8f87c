-- The numbers below a limit that pass a test.
use Rattle.std.proofs.Common.{◌≡◌, ℕ, zero, suc, ◌+◌, ◌<◌, ◌≤◌, Bool, true, false, ◌&&◌, List, [], ◌∷◌, length, filter, refl, ◌∙◌, arith}
use Rattle.std.specs.List.{range_with_len}
use Rattle.std.specs.List.Sorted.{IsStrictlyIncreasing}
use Rattle.std.proofs.lemmas.List.FromFn.{get_or-range_with_len, length-range_with_len}
use Rattle.std.proofs.lemmas.List.Kept.{IsStrictlyIncreasing-filter}
use Rattle.number_sets.proofs.RisingLists.{rising_once}
use Rattle.deb_index.specs.Constraints.{below}
use Rattle.deb_index.specs.Packages.{is_in}

-- the members of a list that pass a test
pub in-filter : (test : ℕ → Bool) (xs : List ℕ) (q : ℕ) → is_in (filter test xs) q ≡ (is_in xs q && test q)
in-filter test [] q = refl
in-filter test (x ∷ xs) q = grind (arith, in-filter test xs q)

-- the numbers from one on
in-range : (a n q : ℕ) → a ≤ q → q < a + n → is_in (range_with_len a n) q ≡ true
in-range a zero q from to = absurd (omega arith)
in-range a (suc n) q from to = grind (arith, from, to, in-range (a + 1) n q)

range-rises : (a n : ℕ) → IsStrictlyIncreasing (range_with_len a n)
range-rises a n k inside =
    let size : length (range_with_len a n) ≡ n = length-range_with_len a n in
    omega (arith, get_or-range_with_len a n k 0 (omega arith), get_or-range_with_len a n (k + 1) 0 (omega arith))

in-below : (test : ℕ → Bool) (n q : ℕ) → ((k : ℕ) → n ≤ k → test k ≡ false) → test q ≡ is_in (filter test (below n)) q
in-below test n q past = grind (arith, past q, in-filter test (below n) q, in-range 0 n q)

-- the numbers, rising, that pass a test, where none passes from a limit on
pub rising-below : (test : ℕ → Bool) (n : ℕ) (numbers : List ℕ) → IsStrictlyIncreasing numbers → ((q : ℕ) → is_in numbers q ≡ test q) → ((q : ℕ) → n ≤ q → test q ≡ false)
    → numbers ≡ filter test (below n)
rising-below test n numbers rising same past =
    rising_once numbers (filter test (below n)) rising (IsStrictlyIncreasing-filter test (below n) (range-rises 0 n)) (λ q. same q ∙ in-below test n q past)
