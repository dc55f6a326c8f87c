-- Elements with their places, and how long lists of them are.
use Rattle.std.proofs.Common.{◌≡◌, ◌≤◌, ◌+◌, ℕ, Bool, not, cond, List, [], ◌∷◌, ◌++◌, map, filter, length, arith}
use Rattle.std.specs.List.{enumerate_from}
use Rattle.deb_index.specs.Packages.{first_of_each, places_where}

-- one more element goes last, with the next place
pub enumerate-push : {A : Type 0} (n : ℕ) (xs : List A) (x : A) → enumerate_from n (xs ++ x ∷ []) ≡ enumerate_from n xs ++ (n + length xs, x) ∷ []
enumerate-push n [] x = grind arith
enumerate-push n (y ∷ ys) x = grind (arith, enumerate-push (n + 1) ys x)

pub filter-length : {A : Type 0} (keep : A → Bool) (xs : List A) → length (filter keep xs) ≤ length xs
filter-length keep [] = omega arith
filter-length keep (x ∷ xs) = grind (arith, filter-length keep xs)

-- there are no more kinds than elements
pub first-length : {A : Type 0} (same : A → A → Bool) (xs : List A) → length (first_of_each same xs) ≤ length xs
unfolding first_of_each
first-length same [] = omega arith
first-length same (x ∷ xs) = let rest = first-length same xs in let fewer = filter-length (λ y. not (same x y)) (first_of_each same xs) in omega arith

-- one element more, with its place where it passes
push-from : {A : Type 0} (test : A → Bool) (n : ℕ) (xs : List A) (x : A)
    → map (λ (e : ℕ × A). e.0) (filter (λ (e : ℕ × A). test e.1) (enumerate_from n (xs ++ x ∷ []))) ≡ map (λ (e : ℕ × A). e.0) (filter (λ (e : ℕ × A). test e.1) (enumerate_from n xs)) ++ cond (test x) ((n + length xs) ∷ []) []
push-from test n [] x = grind arith
push-from test n (y ∷ ys) x = grind (arith, push-from test (n + 1) ys x)

pub places-push : {A : Type 0} (test : A → Bool) (xs : List A) (x : A) → places_where test (xs ++ x ∷ []) ≡ places_where test xs ++ cond (test x) (length xs ∷ []) []
unfolding places_where
places-push test xs x = grind (arith, push-from test 0 xs x)
