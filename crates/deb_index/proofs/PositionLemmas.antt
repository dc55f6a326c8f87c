-- Where each constraint stands in the list of all, and that it stands there once.
use Rattle.std.proofs.Common.{◌≡◌, ℕ, suc, zero, ◌+◌, ◌<◌, ◌≤◌, ltb, List, [], ◌∷◌, ◌++◌, map, length, Some, slice_get, get_or, take, sum_by, refl, sym, ◌∙◌, ap, subst, inl, inr, ◌⊎◌, arith}
use Rattle.std.specs.List.{flat_map, range_with_len}
use Rattle.std.specs.List.Sorted.{IsStrictlyIncreasing}
use Rattle.std.specs.Option.{option_map}
use Rattle.std.proofs.lemmas.Bool.{cases_Bool, ltb-false, ltb-true}
use Rattle.std.proofs.lemmas.Option.{get_or_from_slice_get, none-some, same_Some, slice_get-get_or, slice_get-map, slice_get_within}
use Rattle.std.proofs.lemmas.List.{length-append, length-map, take_all, take_more}
use Rattle.std.proofs.lemmas.List.Concat.{length-flat_map}
use Rattle.std.proofs.lemmas.List.Kept.{AllPairs-from_increasing}
use Rattle.std.proofs.lemmas.List.FromFn.{get_or-range_with_len, length-range_with_len}
use Rattle.std.proofs.lemmas.List.Sums.{sum_by-cons}
use Rattle.deb_index.specs.declared.constraint.Constraint.{Constraint}
use Rattle.deb_index.specs.declared.constraint.Constraint.TheVariants.{Essential, Need, Apart, Only}
use Rattle.deb_index.specs.Packages.{IndexView, PackageView, aparts, aparts_at, essential_names, is_essential, names, needs, needs_at, no_package, package_at}
use Rattle.deb_index.specs.Constraints.{below, constraints_at, constraints_of}
use Rattle.deb_index.specs.Links.{first_position}
use Rattle.deb_index.specs.Tables.{asked_count}
use Rattle.deb_index.proofs.ConstraintLemmas.{at-length, sum-front}
use Rattle.deb_index.proofs.PartLemmas.{sum-more, sum-take}
use Rattle.deb_index.proofs.MemberLemmas.{rising-places_where}

-- ---- lists

module _ {A : Type 0} where
  -- no element stands twice
  abbrev StandsOnce : List A → Type 0
  StandsOnce xs = (k other : ℕ) (x : A) → slice_get xs k ≡ Some x → slice_get xs other ≡ Some x → k ≡ other

  -- what holds of each element
  abbrev HoldsOfEach : (A → Type 0) → List A → Type 0
  HoldsOfEach P xs = (k : ℕ) (x : A) → slice_get xs k ≡ Some x → P x

  pub in-front : (xs ys : List A) (k : ℕ) (x : A) → slice_get xs k ≡ Some x → slice_get (xs ++ ys) k ≡ Some x
  in-front [] ys k x at = absurd (none-some x at)
  in-front (z ∷ zs) ys zero x at = at
  in-front (z ∷ zs) ys (suc k) x at = in-front zs ys k x at

  pub behind : (xs ys : List A) (j : ℕ) → slice_get (xs ++ ys) (length xs + j) ≡ slice_get ys j
  behind [] ys j = let same : 0 + j ≡ j = omega arith in ap (slice_get ys) same
  behind (z ∷ zs) ys j = let next : length (z ∷ zs) + j ≡ suc (length zs + j) = omega arith in ap (slice_get (z ∷ (zs ++ ys))) next ∙ behind zs ys j

  -- one element more
  pub next-taken : (xs : List A) (k : ℕ) (x : A) → slice_get xs k ≡ Some x → take (k + 1) xs ≡ take k xs ++ x ∷ []
  next-taken xs k x at = take_more xs k x (slice_get_within xs k x at) ∙ ap (λ y. take k xs ++ y ∷ []) (get_or_from_slice_get xs k x x at)

  side : (xs ys : List A) (k : ℕ) (x : A) → slice_get (xs ++ ys) k ≡ Some x → (slice_get xs k ≡ Some x) ⊎ ((j : ℕ) × (k ≡ length xs + j) × (slice_get ys j ≡ Some x))
  side [] ys k x at = inr (k, omega arith, at)
  side (z ∷ zs) ys zero x at = inl at
  side (z ∷ zs) ys (suc k) x at =
      elim (side zs ys k x at) [
        | inl front ↦ inl front
        | inr later ↦ inr (later.0, omega (arith, later.1), later.2)
      ]

  each-append : (P : A → Type 0) (xs ys : List A) → HoldsOfEach P xs → HoldsOfEach P ys → HoldsOfEach P (xs ++ ys)
  each-append P xs ys front back k x at =
      elim (side xs ys k x at) [
        | inl here ↦ front k x here
        | inr later ↦ back later.0 x later.2
      ]

  -- the elements of the one list are of lower kinds than those of the other
  once-append : (kind : A → ℕ) (limit : ℕ) (xs ys : List A) → HoldsOfEach (λ x. kind x < limit) xs → HoldsOfEach (λ x. limit ≤ kind x) ys → StandsOnce xs → StandsOnce ys → StandsOnce (xs ++ ys)
  once-append kind limit xs ys low high front back k other x at too =
      elim (side xs ys k x at) [
        | inl here ↦ elim (side xs ys other x too) [
          | inl both ↦ front k other x here both
          | inr later ↦ absurd (omega (arith, low k x here, high later.0 x later.2))
        ]
        | inr later ↦ elim (side xs ys other x too) [
          | inl here ↦ absurd (omega (arith, low other x here, high later.0 x later.2))
          | inr both ↦ omega (arith, later.1, both.1, back later.0 both.0 x later.2 both.2)
        ]
      ]

  each-mapped : {B : Type 0} (P : A → Type 0) (f : B → A) (xs : List B) → ((x : B) → P (f x)) → HoldsOfEach P (map f xs)
  each-mapped P f [] holds k x at = absurd (none-some x at)
  each-mapped P f (z ∷ zs) holds zero x at = subst P (same_Some (f z) x at) (holds z)
  each-mapped P f (z ∷ zs) holds (suc k) x at = each-mapped P f zs holds k x at

  -- a function with a way back
  mapped-back : {B : Type 0} (f : B → A) (back : A → B) (xs : List B) → ((x : B) → back (f x) ≡ x) → (k : ℕ) → slice_get xs k ≡ option_map back (slice_get (map f xs) k)
  mapped-back f back [] leads k = refl
  mapped-back f back (z ∷ zs) leads zero = ap Some (sym (leads z))
  mapped-back f back (z ∷ zs) leads (suc k) = mapped-back f back zs leads k

once-mapped : {A B : Type 0} (f : B → A) (back : A → B) (xs : List B) → ((x : B) → back (f x) ≡ x) → StandsOnce xs → StandsOnce (map f xs)
once-mapped f back xs leads once k other x at too =
    once k other (back x) (mapped-back f back xs leads k ∙ ap (option_map back) at) (mapped-back f back xs leads other ∙ ap (option_map back) too)

once-before : (xs : List ℕ) → IsStrictlyIncreasing xs → (k other x : ℕ) → slice_get xs k ≡ Some x → slice_get xs other ≡ Some x → k < other → ⊥
once-before xs rising k other x at too less =
    let up : get_or xs k x < get_or xs other x = AllPairs-from_increasing xs rising k other x less (slice_get_within xs other x too) in
    omega (arith, up, get_or_from_slice_get xs k x x at, get_or_from_slice_get xs other x x too)

rising-once : (xs : List ℕ) → IsStrictlyIncreasing xs → StandsOnce xs
rising-once xs rising k other x at too =
    elim (cases_Bool (ltb k other)) [
      | inl less ↦ absurd (once-before xs rising k other x at too (ltb-true k other less))
      | inr less ↦ elim (cases_Bool (ltb other k)) [
        | inl more ↦ absurd (once-before xs rising other k x too at (ltb-true other k more))
        | inr more ↦ omega (arith, ltb-false k other less, ltb-false other k more)
      ]
    ]

below-once : (n : ℕ) → StandsOnce (below n)
below-once n = rising-once (below n) λ k less.
    omega (arith, less, length-range_with_len 0 n, get_or-range_with_len 0 n k 0 (omega (arith, less, length-range_with_len 0 n)), get_or-range_with_len 0 n (k + 1) 0 (omega (arith, less, length-range_with_len 0 n)))

-- parts, each of which knows its number
module _ {A : Type 0} (f : ℕ → List A) where
  each-flat : (P : A → Type 0) (ps : List ℕ) → ((p : ℕ) → HoldsOfEach P (f p)) → HoldsOfEach P (flat_map f ps)
  each-flat P [] holds k x at = absurd (none-some x at)
  each-flat P (p ∷ ps) holds k x at = each-append P (f p) (flat_map f ps) (holds p) (each-flat P ps holds) k x at

  module _ (owner : A → ℕ) (owned : (p : ℕ) → HoldsOfEach (λ x. owner x ≡ p) (f p)) (once : (p : ℕ) → StandsOnce (f p)) where
    flat-owner : (a n : ℕ) → HoldsOfEach (λ x. a ≤ owner x) (flat_map f (range_with_len a n))
    flat-owner a zero k x at = absurd (none-some x at)
    flat-owner a (suc n) k x at = each-append (λ x. a ≤ owner x) (f a) (flat_map f (range_with_len (a + 1) n))
        (λ k x at. omega (arith, owned a k x at)) (λ k x at. omega (arith, flat-owner (a + 1) n k x at)) k x at

    flat-once : (a n : ℕ) → StandsOnce (flat_map f (range_with_len a n))
    flat-once a zero k other x at too = absurd (none-some x at)
    flat-once a (suc n) k other x at too = once-append owner (a + 1) (f a) (flat_map f (range_with_len (a + 1) n))
        (λ k x at. omega (arith, owned a k x at)) (flat-owner (a + 1) n) (once a) (flat-once (a + 1) n) k other x at too

-- ---- constraints

abbrev kind : Constraint → ℕ
kind (Essential n) = 0
kind (Need p j) = 1
kind (Apart p j) = 2
kind (Only n) = 3

-- the name, or the number of the group or of the entry
abbrev number : Constraint → ℕ
number (Essential n) = n
number (Need p j) = j
number (Apart p j) = j
number (Only n) = n

-- the package that asks
abbrev asking : Constraint → ℕ
asking (Essential n) = 0
asking (Need p j) = p
asking (Apart p j) = p
asking (Only n) = 0

module _ (index : IndexView) where
  abbrev essentials : List Constraint
  essentials = map (λ n. Essential n) (essential_names index)

  abbrev needs_of : ℕ → List Constraint
  needs_of p = map (λ j. Need p j) (below (length (needs_at index p)))

  abbrev aparts_of : ℕ → List Constraint
  aparts_of p = map (λ j. Apart p j) (below (length (aparts_at index p)))

  abbrev asked : List Constraint
  asked = flat_map (constraints_at index) (below (length index.packages))

  abbrev onlys : List Constraint
  onlys = map (λ n. Only n) (below (length (names index)))

  at-each : (P : Constraint → Type 0) (p : ℕ) → ((j : ℕ) → P (Need p j)) → ((j : ℕ) → P (Apart p j)) → HoldsOfEach P (constraints_at index p)
  at-each P p need apart = each-append P (needs_of p) (aparts_of p)
      (each-mapped P (λ j. Need p j) (below (length (needs_at index p))) need) (each-mapped P (λ j. Apart p j) (below (length (aparts_at index p))) apart)

  at-once : (p : ℕ) → StandsOnce (constraints_at index p)
  at-once p = once-append kind 2 (needs_of p) (aparts_of p)
      (each-mapped (λ c. kind c < 2) (λ j. Need p j) (below (length (needs_at index p))) (λ j. omega arith))
      (each-mapped (λ c. 2 ≤ kind c) (λ j. Apart p j) (below (length (aparts_at index p))) (λ j. omega arith))
      (once-mapped (λ j. Need p j) number (below (length (needs_at index p))) (λ j. refl) (below-once (length (needs_at index p))))
      (once-mapped (λ j. Apart p j) number (below (length (aparts_at index p))) (λ j. refl) (below-once (length (aparts_at index p))))

  asked-once : StandsOnce asked
  asked-once = flat-once (constraints_at index) asking (λ p. at-each (λ c. asking c ≡ p) p (λ j. refl) (λ j. refl)) at-once 0 (length index.packages)

  asked-each : (P : Constraint → Type 0) → ((p j : ℕ) → P (Need p j)) → ((p j : ℕ) → P (Apart p j)) → HoldsOfEach P asked
  asked-each P need apart = each-flat (constraints_at index) P (below (length index.packages)) (λ p. at-each P p (need p) (apart p))

  essentials-once : StandsOnce essentials
  essentials-once = once-mapped (λ n. Essential n) number (essential_names index) (λ n. refl) (rising-once (essential_names index) (rising-places_where (is_essential index) (names index)))

  essentials-each : (P : Constraint → Type 0) → ((n : ℕ) → P (Essential n)) → HoldsOfEach P essentials
  essentials-each P = each-mapped P (λ n. Essential n) (essential_names index)

  onlys-once : StandsOnce onlys
  onlys-once = once-mapped (λ n. Only n) number (below (length (names index))) (λ n. refl) (below-once (length (names index)))

  -- two positions of one constraint are the same
  pub one_position : (k other : ℕ) (constraint : Constraint) → slice_get (constraints_of index) k ≡ Some constraint → slice_get (constraints_of index) other ≡ Some constraint → k ≡ other
  unfolding constraints_of
  one_position = once-append kind 3 (essentials ++ asked) onlys
      (each-append (λ c. kind c < 3) essentials asked (essentials-each (λ c. kind c < 3) (λ n. omega arith)) (asked-each (λ c. kind c < 3) (λ p j. omega arith) (λ p j. omega arith)))
      (each-mapped (λ c. 3 ≤ kind c) (λ n. Only n) (below (length (names index))) (λ n. omega arith))
      (once-append kind 1 essentials asked (essentials-each (λ c. kind c < 1) (λ n. omega arith)) (asked-each (λ c. 1 ≤ kind c) (λ p j. omega arith) (λ p j. omega arith)) essentials-once asked-once)
      onlys-once

  -- the essential names come first
  pub essential_position : (i : ℕ) (number : ℕ) → slice_get (essential_names index) i ≡ Some number → slice_get (constraints_of index) i ≡ Some (Essential number)
  unfolding constraints_of
  essential_position i number at = in-front (essentials ++ asked) onlys i (Essential number)
      (in-front essentials asked i (Essential number) (slice_get-map (λ n. Essential n) (essential_names index) i ∙ ap (option_map (λ n. Essential n)) at))

-- ---- where what a package asks for begins

flat-place : {A : Type 0} (f : ℕ → List A) (a n i j : ℕ) (x : A) → i < n → slice_get (f (a + i)) j ≡ Some x → slice_get (flat_map f (range_with_len a n)) (sum_by (λ p. length (f p)) (range_with_len a i) + j) ≡ Some x
flat-place f a zero i j x less at = absurd (omega arith)
flat-place f a (suc n) zero j x less at =
    let here : a + 0 ≡ a = omega arith in
    let same : 0 + j ≡ j = omega arith in
    in-front (f a) (flat_map f (range_with_len (a + 1) n)) (0 + j) x (ap (slice_get (f a)) same ∙ ap (λ p. slice_get (f p) j) (sym here) ∙ at)
flat-place f a (suc n) (suc i) j x less at =
    let later = sum_by (λ p. length (f p)) (range_with_len (a + 1) i) in
    let next : (a + 1) + i ≡ a + suc i = omega arith in
    let split : sum_by (λ p. length (f p)) (range_with_len a (suc i)) + j ≡ length (f a) + (later + j) = omega (arith, sum_by-cons (λ p. length (f p)) a (range_with_len (a + 1) i)) in
    ap (slice_get (f a ++ flat_map f (range_with_len (a + 1) n))) split ∙ behind (f a) (flat_map f (range_with_len (a + 1) n)) (later + j)
    ∙ flat-place f (a + 1) n i j x (omega arith) (ap (λ p. slice_get (f p) j) next ∙ at)

mapped-at : {A : Type 0} (f : ℕ → A) (n j : ℕ) → j < n → slice_get (map f (below n)) j ≡ Some (f j)
mapped-at f n j less =
    let there : j < length (below n) = omega (arith, length-range_with_len 0 n) in
    let same : 0 + j ≡ j = omega arith in
    slice_get-map f (below n) j ∙ ap (option_map f) (slice_get-get_or (below n) j 0 there ∙ ap Some (get_or-range_with_len 0 n j 0 less ∙ same))

module _ (index : IndexView) where
  sums-are : (place : ℕ) → place ≤ length index.packages → sum_by (λ p. length (constraints_at index p)) (below place) ≡ sum_by asked_count (take place index.packages)
  sums-are place few =
      sum-front no_package asked_count (λ p. length (constraints_at index p)) 0 place index.packages few
      (λ q m at. let same : m ≡ q = omega arith in at-length index m ∙ ap (λ i. asked_count (package_at index i)) same)

  -- what the package at a place asks for stands behind what all before it ask for
  asked-place : (place j k : ℕ) (constraint : Constraint) → place < length index.packages → k ≡ first_position index place + j → slice_get (constraints_at index place) j ≡ Some constraint → slice_get (constraints_of index) k ≡ Some constraint
  unfolding constraints_of
  asked-place place j k constraint less is at =
      let sum = sum_by (λ p. length (constraints_at index p)) (below place) in
      let here : 0 + place ≡ place = omega arith in
      let split : k ≡ length (essentials index) + (sum + j) = omega (arith, is, sums-are place (omega arith), length-map (essential_names index) (λ n. Essential n)) in
      in-front (essentials index ++ asked index) (onlys index) k constraint
      (ap (slice_get (essentials index ++ asked index)) split ∙ behind (essentials index) (asked index) (sum + j)
      ∙ flat-place (constraints_at index) 0 (length index.packages) place j constraint less (ap (λ p. slice_get (constraints_at index p) j) here ∙ at))

  pub need-place : (place j k : ℕ) → place < length index.packages → j < length (needs_at index place) → k ≡ first_position index place + j → slice_get (constraints_of index) k ≡ Some (Need place j)
  need-place place j k less few is =
      asked-place place j k (Need place j) less is (in-front (needs_of index place) (aparts_of index place) j (Need place j) (mapped-at (λ j. Need place j) (length (needs_at index place)) j few))

  pub apart-place : (place j k : ℕ) → place < length index.packages → j < length (aparts_at index place) → k ≡ first_position index place + (length (needs_at index place) + j) → slice_get (constraints_of index) k ≡ Some (Apart place j)
  apart-place place j k less few is =
      let groups : length (needs_at index place) + j ≡ length (needs_of index place) + j = omega (
        arith,
        length-map (below (length (needs_at index place))) (λ j. Need place j),
        length-range_with_len 0 (length (needs_at index place)),
      ) in
      asked-place place (length (needs_at index place) + j) k (Apart place j) less is
      (ap (slice_get (constraints_at index place)) groups ∙ behind (needs_of index place) (aparts_of index place) j ∙ mapped-at (λ j. Apart place j) (length (aparts_at index place)) j few)

  asked-long : length (essentials index ++ asked index) ≡ first_position index (length index.packages)
  asked-long = omega (
    arith,
    length-append (essentials index) (asked index),
    length-map (essential_names index) (λ n. Essential n),
    length-flat_map (constraints_at index) (below (length index.packages)),
    sums-are (length index.packages) (omega arith),
  )

  pub only-place : (n k : ℕ) → n < length (names index) → k ≡ first_position index (length index.packages) + n → slice_get (constraints_of index) k ≡ Some (Only n)
  unfolding constraints_of
  only-place n k few is =
      let split : k ≡ length (essentials index ++ asked index) + n = omega (arith, is, asked-long) in
      ap (slice_get ((essentials index ++ asked index) ++ onlys index)) split ∙ behind (essentials index ++ asked index) (onlys index) n ∙ mapped-at (λ n. Only n) (length (names index)) n few

  -- how many constraints there are
  pub constraints-long : length (constraints_of index) ≡ first_position index (length index.packages) + length (names index)
  unfolding constraints_of
  constraints-long = omega (
    arith,
    asked-long,
    length-append (essentials index ++ asked index) (onlys index),
    length-map (below (length (names index))) (λ n. Only n),
    length-range_with_len 0 (length (names index)),
  )

  pub first-within : (place : ℕ) → first_position index place ≤ length (constraints_of index)
  first-within place = omega (arith, constraints-long, sum-take asked_count place index.packages, ap (sum_by asked_count) (take_all (length index.packages) index.packages (omega arith)))

  -- where what the next package asks for begins
  pub first-next : (place : ℕ) → place < length index.packages → first_position index (place + 1) ≡ first_position index place + (length (needs_at index place) + length (aparts_at index place))
  first-next place less = omega (arith, sum-more asked_count index.packages place no_package less)

  -- the groups and the entries of the packages before a place
  pub sums-joined : (place : ℕ) → first_position index place ≡ length (essential_names index) + (sum_by (λ (p : PackageView). length (needs p)) (take place index.packages) + sum_by (λ (p : PackageView). length (aparts p)) (take place index.packages))
  sums-joined place = omega (arith, joined (take place index.packages))
    where
      joined : (ps : List PackageView) → sum_by asked_count ps ≡ sum_by (λ (p : PackageView). length (needs p)) ps + sum_by (λ (p : PackageView). length (aparts p)) ps
      joined [] = refl
      joined (p ∷ ps) = omega (arith, sum_by-cons asked_count p ps, sum_by-cons (λ (p : PackageView). length (needs p)) p ps, sum_by-cons (λ (p : PackageView). length (aparts p)) p ps, joined ps)
