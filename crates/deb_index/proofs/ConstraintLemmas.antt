-- The list of constraints: how it grows, that it speaks of the index, and that it is short.
use Rattle.std.proofs.Common.{◌≡◌, ℕ, suc, ◌+◌, ◌<◌, ◌≤◌, Bool, List, [], ◌∷◌, ◌++◌, map, filter, length, get_or, refl, sym, ◌∙◌, ap, subst, arith, zero, take}
use Rattle.std.specs.Prelude.{◌^◌, sum_by}
use Rattle.std.specs.List.{All, enumerate_from, flat_map, range_with_len}
use Rattle.std.specs.Str.{bytes_eq}
use Rattle.std.proofs.lemmas.List.{length-append, length-map, take_all}
use Rattle.std.proofs.lemmas.List.Concat.{length-flat_map}
use Rattle.std.proofs.lemmas.List.Elements.{All-append, All-map}
use Rattle.std.proofs.lemmas.List.FromFn.{get_or-range_with_len, length-enumerate_from, length-range_with_len}
use Rattle.std.proofs.lemmas.List.Sums.{sum_by-cons}
use Rattle.deb_index.specs.declared.constraint.Constraint.{Constraint}
use Rattle.deb_index.specs.declared.constraint.Constraint.TheVariants.{Essential, Need, Apart, Only}
use Rattle.deb_index.specs.Packages.{IndexView, PackageView, aparts_at, essential_names, is_essential, names, needs_at, no_package, package_at, places_where}
use Rattle.deb_index.specs.Constraints.{IsOfIndex, below, constraints_at, constraints_of}
use Rattle.deb_index.specs.Tables.{asked_count, asked_limit}
use Rattle.deb_index.specs.Reading.{stanza_limit}
use Rattle.deb_index.proofs.MemberLemmas.{below-places_where}
use Rattle.deb_index.proofs.EnumerateLemmas.{filter-length, first-length}

-- ---- of the index

all-below : (P : ℕ → Type 0) (n : ℕ) → ((q : ℕ) → q < n → P q) → All P (below n)
all-below P n each k d h =
    let few : k < n = omega (arith, length-range_with_len 0 n) in
    let same : 0 + k ≡ k = omega arith in
    subst P (sym (get_or-range_with_len 0 n k d few ∙ same)) (each k few)

all-flat : {X A : Type 0} (P : A → Type 0) (f : X → List A) (xs : List X) → All (λ x. All P (f x)) xs → All P (flat_map f xs)
all-flat P f [] h = λ k d less. absurd (omega arith)
all-flat P f (x ∷ xs) h = All-append P (f x) (flat_map f xs) (h 0 x (omega arith)) (all-flat P f xs (λ k d less. h (suc k) d (omega arith)))

-- what holds of the constraints of each kind holds of all
pub all-constraints : (index : IndexView) (P : Constraint → Type 0) → All (λ n. P (Essential n)) (essential_names index) → ((p : ℕ) → p < length index.packages → (j : ℕ) → j < length (needs_at index p) → P (Need p j))
    → ((p : ℕ) → p < length index.packages → (j : ℕ) → j < length (aparts_at index p) → P (Apart p j)) → ((n : ℕ) → n < length (names index) → P (Only n)) → All P (constraints_of index)
unfolding constraints_of
all-constraints index P essential need apart only =
    All-append P (map (λ n. Essential n) (essential_names index) ++ flat_map (constraints_at index) (below (length index.packages))) (map (λ n. Only n) (below (length (names index))))
    (All-append P (map (λ n. Essential n) (essential_names index)) (flat_map (constraints_at index) (below (length index.packages))) (All-map P (λ n. Essential n) (essential_names index) essential)
    (all-flat P (constraints_at index) (below (length index.packages)) (all-below (λ p. All P (constraints_at index p)) (length index.packages) λ p less.
    All-append P (map (λ j. Need p j) (below (length (needs_at index p)))) (map (λ j. Apart p j) (below (length (aparts_at index p))))
    (All-map P (λ j. Need p j) (below (length (needs_at index p))) (all-below (λ j. P (Need p j)) (length (needs_at index p)) (need p less)))
    (All-map P (λ j. Apart p j) (below (length (aparts_at index p))) (all-below (λ j. P (Apart p j)) (length (aparts_at index p)) (apart p less))))))
    (All-map P (λ n. Only n) (below (length (names index))) (all-below (λ n. P (Only n)) (length (names index)) only))

pub constraints-within : (index : IndexView) → All (IsOfIndex index) (constraints_of index)
constraints-within index = all-constraints index (IsOfIndex index) (below-places_where (is_essential index) (names index)) (λ p less j few. (less, few)) (λ p less j few. (less, few)) (λ n less. less)

-- ---- short

pub where-short : {A : Type 0} (test : A → Bool) (xs : List A) → length (places_where test xs) ≤ length xs
unfolding places_where
where-short {A} test xs = omega (arith, length-map (filter (λ (e : ℕ × A). test e.1) (enumerate_from 0 xs)) (λ (e : ℕ × A). e.0), filter-length (λ (e : ℕ × A). test e.1) (enumerate_from 0 xs), length-enumerate_from 0 xs)

pub sum-front : {A : Type 0} (d : A) (g : A → ℕ) (h : ℕ → ℕ) (n i : ℕ) (xs : List A) → i ≤ length xs → ((q m : ℕ) → n + q ≡ m → h m ≡ g (get_or xs q d)) → sum_by h (range_with_len n i) ≡ sum_by g (take i xs)
sum-front d g h n zero xs few same = refl
sum-front d g h n (suc i) [] few same = absurd (omega arith)
sum-front d g h n (suc i) (x ∷ xs) few same =
    omega (arith, sum_by-cons h n (range_with_len (n + 1) i), sum_by-cons g x (take i xs), same 0 n (omega arith), sum-front d g h (n + 1) i xs (omega arith) (λ q m at. same (suc q) m (omega arith)))

module _ (index : IndexView) where
  pub at-length : (p : ℕ) → length (constraints_at index p) ≡ asked_count (package_at index p)
  at-length p = omega (
    arith,
    length-append (map (λ j. Need p j) (below (length (needs_at index p)))) (map (λ j. Apart p j) (below (length (aparts_at index p)))),
    length-map (below (length (needs_at index p))) (λ j. Need p j),
    length-map (below (length (aparts_at index p))) (λ j. Apart p j),
    length-range_with_len 0 (length (needs_at index p)),
    length-range_with_len 0 (length (aparts_at index p)),
  )

  asked-length : length (flat_map (constraints_at index) (below (length index.packages))) ≡ sum_by asked_count index.packages
  asked-length = length-flat_map (constraints_at index) (below (length index.packages))
      ∙ sum-front no_package asked_count (λ p. length (constraints_at index p)) 0 (length index.packages) index.packages (omega arith) (λ q m at. let same : m ≡ q = omega arith in at-length m ∙ ap (λ i. asked_count (package_at index i)) same)
      ∙ ap (sum_by asked_count) (take_all (length index.packages) index.packages (omega arith))

  names-short : length (names index) ≤ length index.packages
  names-short = omega (arith, first-length bytes_eq (map (λ (p : PackageView). p.name) index.packages), length-map index.packages (λ (p : PackageView). p.name))

  pub constraints-few : length index.packages ≤ stanza_limit → sum_by asked_count index.packages ≤ asked_limit → length (constraints_of index) < 2 ^ 32
  unfolding constraints_of
  constraints-few few few_asked = omega (
    arith,
    few,
    few_asked,
    names-short,
    where-short (is_essential index) (names index),
    asked-length,
    length-append (map (λ n. Essential n) (essential_names index) ++ flat_map (constraints_at index) (below (length index.packages))) (map (λ n. Only n) (below (length (names index)))),
    length-append (map (λ n. Essential n) (essential_names index)) (flat_map (constraints_at index) (below (length index.packages))),
    length-map (essential_names index) (λ n. Essential n),
    length-map (below (length (names index))) (λ n. Only n),
    length-range_with_len 0 (length (names index)),
  )
