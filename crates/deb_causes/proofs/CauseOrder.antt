-- A stable sort by falling counts lists the causes by their counts.
use Rattle.std.proofs.Common.{◌≡◌, ℕ, zero, suc, ◌+◌, ◌<◌, ◌≤◌, ◌==◌, Bool, true, false, not, ◌&&◌, ltb, List, [], ◌∷◌, ◌++◌, All, length, get_or, map, filter, refl, sym, ap, ap₂, ◌∙◌, subst, inl, inr, arith}
use Rattle.std.proofs.lemmas.Bool.{cases_Bool, ltb-true}
use Rattle.std.proofs.lemmas.Bool.Decides.{nat_tests}
use Rattle.std.proofs.lemmas.List.Elements.{All-head, All-tail, All-cons, All-nil, filter_agree}
use Rattle.std.specs.List.Sorted.{IsSortedBy, IsStableBy, ties}
use Rattle.deb_causes.specs.declared.gathered.Cause.{Cause}
use Rattle.deb_causes.specs.Causes.{by_count, cause_view, has_count}

-- how many packages a cause has, and whether it comes before another
abbrev pub count_of : Cause → ℕ
count_of cause = length cause.places.items

abbrev pub is_before : Cause → Cause → Bool
is_before a b = ltb (count_of b) (count_of a)

abbrev counts : ℕ → Cause → Bool
counts n cause = count_of cause == n

-- the causes by their counts, before they are seen through a view
counted : ℕ → List Cause → List Cause
counted zero causes = filter (counts 0) causes
counted (suc n) causes = filter (counts (suc n)) causes ++ counted n causes

filter-seen : (n : ℕ) (causes : List Cause) → filter (has_count n) (map cause_view causes) ≡ map cause_view (filter (counts n) causes)
filter-seen n [] = refl
filter-seen n (c ∷ cs) =
    elim (cases_Bool (counts n c)) [
      | inl has ↦ rw has (ap (λ rest. cause_view c ∷ rest) (filter-seen n cs))
      | inr other ↦ rw other (filter-seen n cs)
    ]

map-joined : (xs ys : List Cause) → map cause_view (xs ++ ys) ≡ map cause_view xs ++ map cause_view ys
map-joined [] ys = refl
map-joined (x ∷ xs) ys = ap (λ rest. cause_view x ∷ rest) (map-joined xs ys)

counted-seen : (n : ℕ) (causes : List Cause) → by_count n (map cause_view causes) ≡ map cause_view (counted n causes)
unfolding by_count counted
counted-seen zero causes = filter-seen 0 causes
counted-seen (suc n) causes =
    ap₂ (λ front rest. front ++ rest) (filter-seen (suc n) causes) (counted-seen n causes)
    ∙ sym (map-joined (filter (counts (suc n)) causes) (counted n causes))

-- ---- sorted causes stand by their counts

unlike : (m n : ℕ) → m < n → (m == n) ≡ false
unlike m n h = grind (arith, nat_tests)

like : (m n : ℕ) → m ≡ n → (m == n) ≡ true
like m n h = grind (arith, nat_tests)

none-counted : (n : ℕ) (causes : List Cause) → All (λ c. count_of c < n) causes → filter (counts n) causes ≡ []
none-counted n [] all = refl
none-counted n (c ∷ cs) all =
    rw (unlike (count_of c) n (All-head (λ d. count_of d < n) c cs all)) (none-counted n cs (All-tail (λ d. count_of d < n) c cs all))

less : (m n : ℕ) (causes : List Cause) → m < n → All (λ c. count_of c ≤ m) causes → All (λ c. count_of c < n) causes
less m n [] below all = All-nil (λ c. count_of c < n)
less m n (c ∷ cs) below all =
    let first : count_of c ≤ m = All-head (λ d. count_of d ≤ m) c cs all in
    let here : count_of c < n = omega arith in
    All-cons (λ d. count_of d < n) c cs here (less m n cs below (All-tail (λ d. count_of d ≤ m) c cs all))

counted-none : (n : ℕ) → counted n [] ≡ []
unfolding counted
counted-none zero = refl
counted-none (suc n) = counted-none n

-- a first cause of as many packages as any other stays first
first-counted : (n : ℕ) (c : Cause) (cs : List Cause) → count_of c ≤ n → All (λ d. count_of d ≤ count_of c) cs → counted n (c ∷ cs) ≡ c ∷ counted n cs
unfolding counted
first-counted zero c cs most all =
    let none : count_of c ≡ 0 = omega arith in
    rw (like (count_of c) 0 none) refl
first-counted (suc n) c cs most all =
    elim (cases_Bool (ltb (count_of c) (suc n))) [
      | inl fewer ↦
          let below : count_of c < suc n = ltb-true (count_of c) (suc n) fewer in
          let within : count_of c ≤ n = omega arith in
          rw (unlike (count_of c) (suc n) below, none-counted (suc n) cs (less (count_of c) (suc n) cs below all)) (first-counted n c cs within all)
      | inr same ↦
          let is : count_of c ≡ suc n = exactly (count_of c) (suc n) most same in
          rw (like (count_of c) (suc n) is) (ap (λ rest. c ∷ (filter (counts (suc n)) cs ++ rest)) (left-out n c cs is))
    ]
  where
    exactly : (m k : ℕ) → m ≤ k → ltb m k ≡ false → m ≡ k
    exactly m k most same = grind (arith, nat_tests)

    past : (m k : ℕ) → k < m → (m == k) ≡ false
    past m k h = grind (arith, nat_tests)

    left-out : (k : ℕ) (d : Cause) (ds : List Cause) → count_of d ≡ suc k → counted k (d ∷ ds) ≡ counted k ds
    left-out k d ds is = go k (omega arith)
      where
        go : (j : ℕ) → j < count_of d → counted j (d ∷ ds) ≡ counted j ds
        go zero below = rw (past (count_of d) 0 below) refl
        go (suc j) below = let lower : j < count_of d = omega arith in rw (past (count_of d) (suc j) below) (ap (λ rest. filter (counts (suc j)) ds ++ rest) (go j lower))

abbrev Falls : List Cause → Type 0
Falls [] = Unit {0}
Falls (c ∷ cs) = All (λ d. count_of d ≤ count_of c) cs × Falls cs

falling-counted : (n : ℕ) (causes : List Cause) → Falls causes → All (λ c. count_of c ≤ n) causes → counted n causes ≡ causes
falling-counted n [] falls all = counted-none n
falling-counted n (c ∷ cs) falls all =
    first-counted n c cs (All-head (λ d. count_of d ≤ n) c cs all) falls.0
    ∙ ap (λ rest. c ∷ rest) (falling-counted n cs falls.1 (All-tail (λ d. count_of d ≤ n) c cs all))

-- ---- what a sort says

not-less : (m n : ℕ) → ltb m n ≡ false → n ≤ m
not-less m n h = grind (arith, nat_tests)

sorted-tail : (c : Cause) (cs : List Cause) → IsSortedBy is_before (c ∷ cs) → IsSortedBy is_before cs
sorted-tail c cs sorted = λ k d low inside.
    let next : suc k + 1 ≡ suc (k + 1) = omega arith in
    let upper : suc k + 1 < suc (length cs) = omega arith in
    subst (λ m. is_before (get_or (c ∷ cs) m d) (get_or cs k d) ≡ false) next (sorted (suc k) d (omega arith) upper)

under-first : (c : Cause) (cs : List Cause) → IsSortedBy is_before (c ∷ cs) → All (λ d. count_of d ≤ count_of c) cs
under-first c [] sorted = All-nil (λ d. count_of d ≤ count_of c)
under-first c (d ∷ ds) sorted =
    let two : 0 + 1 < suc (suc (length ds)) = omega arith in
    let next : count_of d ≤ count_of c = not-less (count_of c) (count_of d) (sorted 0 c (omega arith) two) in
    All-cons (λ e. count_of e ≤ count_of c) d ds next (lower ds (under-first d ds (sorted-tail c (d ∷ ds) sorted)) next)
  where
    lower : (es : List Cause) → All (λ e. count_of e ≤ count_of d) es → count_of d ≤ count_of c → All (λ e. count_of e ≤ count_of c) es
    lower [] all next = All-nil (λ e. count_of e ≤ count_of c)
    lower (e ∷ es) all next =
        let first : count_of e ≤ count_of d = All-head (λ x. count_of x ≤ count_of d) e es all in
        let here : count_of e ≤ count_of c = omega arith in
        All-cons (λ x. count_of x ≤ count_of c) e es here (lower es (All-tail (λ x. count_of x ≤ count_of d) e es all) next)

falls-sorted : (causes : List Cause) → IsSortedBy is_before causes → Falls causes
falls-sorted [] sorted = tt
falls-sorted (c ∷ cs) sorted = (under-first c cs sorted, falls-sorted cs (sorted-tail c cs sorted))

-- ties are equal counts
ties-count : (n : ℕ) (c d : Cause) → count_of c ≡ n → ties is_before c d ≡ counts n d
ties-count n c d is = go (count_of c) (count_of d) n is
  where
    go : (a b m : ℕ) → a ≡ m → (not (ltb b a) && not (ltb a b)) ≡ (b == m)
    go a b m e = grind (arith, nat_tests)

of-count : (n : ℕ) (c : Cause) (xs ys : List Cause) → IsStableBy is_before xs ys → count_of c ≡ n → filter (counts n) ys ≡ filter (counts n) xs
of-count n c xs ys stable is =
    filter_agree (counts n) (ties is_before c) (λ d. sym (ties-count n c d is)) ys ∙ stable c
    ∙ filter_agree (ties is_before c) (counts n) (λ d. ties-count n c d is) xs

-- the first that is left has the count
first-left : (n : ℕ) (xs : List Cause) (c : Cause) (rest : List Cause) → filter (counts n) xs ≡ c ∷ rest → count_of c ≡ n
first-left n [] c rest e = cc
first-left n (x ∷ xs) c rest e =
    elim (cases_Bool (counts n x)) [
      | inl has ↦
          let found : x ∷ filter (counts n) xs ≡ c ∷ rest = rw has at e in
          let same : x ≡ c = cc in
          subst (λ d. count_of d ≡ n) same (exact (count_of x) n has)
      | inr other ↦ first-left n xs c rest (rw other at e)
    ]
  where
    exact : (a b : ℕ) → (a == b) ≡ true → a ≡ b
    exact a b h = grind (arith, nat_tests)

same-filter : (n : ℕ) (xs ys : List Cause) → IsStableBy is_before xs ys → filter (counts n) ys ≡ filter (counts n) xs
same-filter n xs ys stable = by (filter (counts n) ys) (filter (counts n) xs) refl refl
  where
    by : (fs gs : List Cause) → filter (counts n) ys ≡ fs → filter (counts n) xs ≡ gs → filter (counts n) ys ≡ filter (counts n) xs
    by [] [] f g = f ∙ sym g
    by (c ∷ rest) gs f g = of-count n c xs ys stable (first-left n ys c rest f)
    by [] (c ∷ rest) f g = of-count n c xs ys stable (first-left n xs c rest g)

same-counted : (n : ℕ) (xs ys : List Cause) → IsStableBy is_before xs ys → counted n ys ≡ counted n xs
unfolding counted
same-counted zero xs ys stable = same-filter 0 xs ys stable
same-counted (suc n) xs ys stable = ap₂ (λ front rest. front ++ rest) (same-filter (suc n) xs ys stable) (same-counted n xs ys stable)

pub sorted-by-count : (most : ℕ) (xs ys : List Cause) → IsSortedBy is_before ys → IsStableBy is_before xs ys → All (λ c. count_of c ≤ most) ys → map cause_view ys ≡ by_count most (map cause_view xs)
sorted-by-count most xs ys sorted stable all =
    ap (map cause_view) (sym (falling-counted most ys (falls-sorted ys sorted) all) ∙ same-counted most xs ys stable)
    ∙ sym (counted-seen most xs)
