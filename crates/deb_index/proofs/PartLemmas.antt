-- Parts of lists that stand behind each other.
use Rattle.std.proofs.Common.{◌≡◌, ◌<◌, ◌≤◌, ◌+◌, ◌-◌, ℕ, List, [], ◌∷◌, ◌++◌, length, map, take, drop, get_or, sum_by, refl, sym, ap, ◌∙◌, arith}
use Prim.Native.Nat.{suc, zero}
use Rattle.std.specs.List.{flat_map}
use Rattle.std.proofs.lemmas.List.{append-nil, drop-append-le, drop-map, drop-take, get_or_append_left, length-take-le, take_all, take_more}
use Rattle.std.proofs.lemmas.List.Concat.{length-flat_map}
use Rattle.std.proofs.lemmas.List.Sums.{sum_by-cons, sum_by-take-drop, sum_by-take-le, sum_by_push}
use Rattle.std.proofs.Math.Seq.{take-add}
use Rattle.std.proofs.lemmas.Grind.{flat_map-append}
use Rattle.deb_index.specs.Links.{starts_from}

module _ {A : Type 0} (count : A → ℕ) where
  starts-on : (n : ℕ) (xs : List A) (x : A) → starts_from count n (xs ++ x ∷ []) ≡ starts_from count n xs ++ (n + sum_by count (xs ++ x ∷ [])) ∷ []
  unfolding starts_from
  starts-on n [] x = grind (arith, sum_by-cons count x [])
  starts-on n (y ∷ ys) x = grind (arith, starts-on (n + count y) ys x, sum_by-cons count y (ys ++ x ∷ []))

  pub starts-none : starts_from count 0 [] ≡ 0 ∷ []
  unfolding starts_from
  starts-none = refl

  -- one element more
  pub starts-push : (xs : List A) (x : A) → starts_from count 0 (xs ++ x ∷ []) ≡ starts_from count 0 xs ++ sum_by count (xs ++ x ∷ []) ∷ []
  starts-push xs x = starts-on 0 xs x ∙ (let same : 0 + sum_by count (xs ++ x ∷ []) ≡ sum_by count (xs ++ x ∷ []) = omega arith in ap (λ m. starts_from count 0 xs ++ m ∷ []) same)

  start-from : (n i : ℕ) (xs : List A) → i ≤ length xs → get_or (starts_from count n xs) i 0 ≡ n + sum_by count (take i xs)
  unfolding starts_from
  start-from n zero [] h = omega arith
  start-from n (suc i) [] h = absurd (omega arith)
  start-from n zero (x ∷ xs) h = omega arith
  start-from n (suc i) (x ∷ xs) h = omega (arith, start-from (n + count x) i xs (omega arith), sum_by-cons count x (take i xs))

  -- where the part of an element begins
  pub start-at : (i : ℕ) (xs : List A) → i ≤ length xs → get_or (starts_from count 0 xs) i 0 ≡ sum_by count (take i xs)
  start-at i xs h = omega (arith, start-from 0 i xs h)

  starts-long : (n : ℕ) (xs : List A) → length (starts_from count n xs) ≡ length xs + 1
  unfolding starts_from
  starts-long n [] = omega arith
  starts-long n (x ∷ xs) = omega (arith, starts-long (n + count x) xs)

  pub starts-length : (xs : List A) → length (starts_from count 0 xs) ≡ length xs + 1
  starts-length xs = starts-long 0 xs

  -- the parts of some elements stand behind those of others
  starts-two : (n m : ℕ) (xs ys : List A) → m ≡ n + sum_by count xs → starts_from count n (xs ++ ys) ≡ starts_from count n xs ++ drop 1 (starts_from count m ys)
  unfolding starts_from
  starts-two n m [] [] e = refl
  starts-two n m [] (y ∷ ys) e = let same : n + count y ≡ m + count y = omega (arith, e) in ap (λ k. n ∷ starts_from count k ys) same
  starts-two n m (x ∷ xs) ys e = ap (λ l. n ∷ l) (starts-two (n + count x) m xs ys (omega (arith, e, sum_by-cons count x xs)))

  starts-moved : (a n : ℕ) (ys : List A) → map (λ m. a + m) (starts_from count n ys) ≡ starts_from count (a + n) ys
  unfolding starts_from
  starts-moved a n [] = refl
  starts-moved a n (y ∷ ys) = grind (arith, starts-moved a (n + count y) ys)

  pub starts-joined : (a : ℕ) (xs ys : List A) → a ≡ sum_by count xs → starts_from count 0 (xs ++ ys) ≡ starts_from count 0 xs ++ map (λ m. a + m) (drop 1 (starts_from count 0 ys))
  starts-joined a xs ys e =
      starts-two 0 (a + 0) xs ys (omega (arith, e))
      ∙ ap (λ l. starts_from count 0 xs ++ l) (ap (drop 1) (sym (starts-moved a 0 ys)) ∙ drop-map (λ m. a + m) 1 (starts_from count 0 ys))

  pub sum-more : (xs : List A) (i : ℕ) (d : A) → i < length xs → sum_by count (take (i + 1) xs) ≡ sum_by count (take i xs) + count (get_or xs i d)
  sum-more xs i d h = ap (sum_by count) (take_more xs i d h) ∙ sum_by_push count (take i xs) (get_or xs i d)

  pub sum-take : (i : ℕ) (xs : List A) → sum_by count (take i xs) ≤ sum_by count xs
  sum-take zero xs = omega arith
  sum-take (suc i) [] = omega arith
  sum-take (suc i) (x ∷ xs) = omega (arith, sum_by-cons count x xs, sum_by-cons count x (take i xs), sum-take i xs)

-- ---- a range of a list

module _ {A : Type 0} (xs : List A) where
  pub range-none : (i : ℕ) → drop i (take i xs) ≡ []
  range-none i = let same : i ≡ i + 0 = omega arith in ap (λ m. drop i (take m xs)) same ∙ drop-take i 0 xs

  pub range-all : (n : ℕ) → n ≡ length xs → drop 0 (take n xs) ≡ xs
  range-all n e = take_all n xs (omega arith)

  pub range-more : (i j : ℕ) (d : A) → i ≤ j → j < length xs → drop i (take (j + 1) xs) ≡ drop i (take j xs) ++ get_or xs j d ∷ []
  range-more i j d le less = ap (drop i) (take_more xs j d less) ∙ drop-append-le i (take j xs) (get_or xs j d ∷ []) (omega (arith, length-take-le j xs))

  range-cut : (i j m : ℕ) → i ≤ j → j ≤ length xs → drop i (take (j + m) xs) ≡ drop i (take j xs) ++ drop j (take (j + m) xs)
  range-cut i j m le within =
      ap (drop i) (take-add j m xs) ∙ drop-append-le i (take j xs) (take m (drop j xs)) (omega (arith, length-take-le j xs))
      ∙ ap (λ l. drop i (take j xs) ++ l) (sym (drop-take j m xs))

  -- a range is two, cut anywhere in it
  pub range-two : (i j k : ℕ) → i ≤ j → j ≤ k → k ≤ length xs → drop i (take k xs) ≡ drop i (take j xs) ++ drop j (take k xs)
  range-two i j k le less within =
      let same : k ≡ j + (k - j) = omega arith in
      ap (λ n. drop i (take n xs)) same ∙ range-cut i j (k - j) le (omega arith) ∙ ap (λ n. drop i (take j xs) ++ drop j (take n xs)) (sym same)

  pub range-sum : (count : A → ℕ) (i j : ℕ) → sum_by count (drop i (take j xs)) ≤ sum_by count xs
  range-sum count i j = omega (arith, sum_by-take-drop count (take j xs) i, sum_by-take-le count xs j)

pub sum-less : {A : Type 0} (f g : A → ℕ) → ((x : A) → f x ≤ g x) → (xs : List A) → sum_by f xs ≤ sum_by g xs
sum-less f g less [] = omega arith
sum-less f g less (x ∷ xs) = omega (arith, sum_by-cons f x xs, sum_by-cons g x xs, less x, sum-less f g less xs)

module _ {A B : Type 0} (f : A → List B) where
  pub flat-push : (xs : List A) (x : A) → flat_map f (xs ++ x ∷ []) ≡ flat_map f xs ++ f x
  flat-push xs x = flat_map-append f xs (x ∷ []) ∙ ap (λ l. flat_map f xs ++ l) (append-nil (f x))

  front-at : (xs ys : List B) (j : ℕ) (d : B) → j < length xs → get_or (xs ++ ys) j d ≡ get_or xs j d
  front-at xs ys j d h = get_or_append_left xs ys d j h

  behind-at : (xs ys : List B) (j k : ℕ) (d : B) → k ≡ length xs + j → get_or (xs ++ ys) k d ≡ get_or ys j d
  behind-at [] ys j k d e = let same : k ≡ j = omega arith in ap (λ m. get_or ys m d) same
  behind-at (x ∷ xs) ys j zero d e = absurd (omega arith)
  behind-at (x ∷ xs) ys j (suc k) d e = behind-at xs ys j k d (omega arith)

  flat-from : (xs : List A) (i j k : ℕ) (d : A) (e : B) → i < length xs → j < length (f (get_or xs i d)) → k ≡ sum_by (λ x. length (f x)) (take i xs) + j → get_or (flat_map f xs) k e ≡ get_or (f (get_or xs i d)) j e
  flat-from [] i j k d e h g same = absurd (omega arith)
  flat-from (x ∷ xs) zero j k d e h g same = let at : k ≡ j = omega arith in ap (λ m. get_or (flat_map f (x ∷ xs)) m e) at ∙ front-at (f x) (flat_map f xs) j e g
  flat-from (x ∷ xs) (suc i) j k d e h g same =
      behind-at (f x) (flat_map f xs) (sum_by (λ x. length (f x)) (take i xs) + j) k e (omega (arith, same, sum_by-cons (λ x. length (f x)) x (take i xs)))
      ∙ flat-from xs i j _ d e (omega arith) g refl

  -- element j of the part of element i
  pub flat-at : (xs : List A) (i j : ℕ) (d : A) (e : B) → i < length xs → j < length (f (get_or xs i d)) → get_or (flat_map f xs) (sum_by (λ x. length (f x)) (take i xs) + j) e ≡ get_or (f (get_or xs i d)) j e
  flat-at xs i j d e h g = flat-from xs i j _ d e h g refl

  pub flat-within : (xs : List A) (i j : ℕ) (d : A) → i < length xs → j < length (f (get_or xs i d)) → sum_by (λ x. length (f x)) (take i xs) + j < length (flat_map f xs)
  flat-within xs i j d h g = omega (arith, length-flat_map f xs, sum-more (λ x. length (f x)) xs i d h, sum-take (λ x. length (f x)) (i + 1) xs, g)
