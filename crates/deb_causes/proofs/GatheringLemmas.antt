-- What has each number, with one more core or package.
use Rattle.std.proofs.Common.{◌≡◌, ℕ, zero, suc, ◌+◌, ◌<◌, ◌≤◌, ◌==◌, ◌||◌, ◌&&◌, Bool, true, false, List, [], ◌∷◌, ◌++◌, All, cond, filter, get_or, length, map, set, take, append-nil, refl, sym, ap, ap₂, ◌∙◌, subst, arith, inl, inr}
use Rattle.std.specs.List.{flat_map, list_all, list_any, range_with_len}
use Rattle.std.specs.List.Sorted.{IsStrictlyIncreasing}
use Rattle.std.proofs.lemmas.Bool.{eqb-true, false≢true, or_cases}
use Rattle.std.proofs.lemmas.Grind.{flat_map-append}
use Rattle.std.proofs.lemmas.Bool.Decides.{nat_tests}
use Rattle.std.proofs.lemmas.List.{append_assoc, get_or-map, length-map, map-append, map-set}
use Rattle.std.proofs.lemmas.List.Elements.{All-head, All-tail, filter-append}
use Rattle.deb_index.specs.declared.constraint.Constraint.{Constraint}
use Rattle.deb_index.specs.Constraints.{below}
use Rattle.number_sets.specs.Sets.{members_of}
use Rattle.number_sets.proofs.ListMembers.{at_members_of}
use Rattle.number_sets.proofs.RisingLists.{above_first, rising_tail}
use Rattle.number_sets.proofs.ListLemmas.{or_false}
use Rattle.number_sets.proofs.MembersLemmas.{members-more}
use Rattle.deb_causes.specs.Gathering.{PartView, cores_with_number, has_number, part_of, share_of, with_cores, with_share}
use Rattle.deb_causes.specs.Numbering.{core_view}
use Rattle.deb_causes.specs.declared.gathered.NumberedCore.{NumberedCore}

-- ---- one of the numbers below a count

unlike : (m n : ℕ) → m < n → (m == n) ≡ false
unlike m n h = grind (arith, nat_tests)

unlike-above : (m n : ℕ) → n < m → (m == n) ≡ false
unlike-above m n h = grind (arith, nat_tests)

pub itself : (n : ℕ) → (n == n) ≡ true
itself n = grind (arith, nat_tests)

same-range : {A : Type 0} (f g : ℕ → A) (a count : ℕ) → ((k : ℕ) → a ≤ k → g k ≡ f k) → map f (range_with_len a count) ≡ map g (range_with_len a count)
same-range f g a zero same = refl
same-range f g a (suc count) same = ap₂ (λ x xs. x ∷ xs) (sym (same a (omega arith))) (same-range f g (a + 1) count (λ k above. same k (omega arith)))

set-range : {A : Type 0} (f g : ℕ → A) (a count i n : ℕ) (v : A) → i < count → a + i ≡ n → v ≡ g n → ((k : ℕ) → (n == k) ≡ false → g k ≡ f k)
    → set (map f (range_with_len a count)) i v ≡ map g (range_with_len a count)
set-range f g a zero i n v inside at is others = absurd (omega arith)
set-range f g a (suc count) zero n v inside at is others =
    let here : n ≡ a = omega arith in
    ap₂ (λ x xs. x ∷ xs) (is ∙ ap g here) (same-range f g (a + 1) count (λ k above. others k (unlike n k (omega arith))))
set-range f g a (suc count) (suc i) n v inside at is others =
    ap₂ (λ x xs. x ∷ xs) (sym (others a (unlike-above n a (omega arith)))) (set-range f g (a + 1) count i n v (omega arith) (omega arith) is others)

get-range : {A : Type 0} (f : ℕ → A) (a count i n : ℕ) (d : A) → i < count → a + i ≡ n → get_or (map f (range_with_len a count)) i d ≡ f n
get-range f a zero i n d inside at = absurd (omega arith)
get-range f a (suc count) zero n d inside at = let here : a ≡ n = omega arith in ap f here
get-range f a (suc count) (suc i) n d inside at = get-range f (a + 1) count i n d (omega arith) (omega arith)

pub length-range : {A : Type 0} (f : ℕ → A) (a count : ℕ) → length (map f (range_with_len a count)) ≡ count
length-range f a zero = refl
length-range f a (suc count) = ap (λ n. suc n) (length-range f (a + 1) count)

-- what is seen of one element changes
pub put-at : {X A : Type 0} (view : X → A) (xs : List X) (f g : ℕ → A) (n count : ℕ) (old new : X) → map view xs ≡ map f (below count) → n < length xs → old ≡ get_or xs n old
    → (view old ≡ f n → view new ≡ g n) → ((k : ℕ) → (n == k) ≡ false → g k ≡ f k) → map view (set xs n new) ≡ map g (below count)
put-at view xs f g n count old new are inside is step others =
    let size : length xs ≡ count = sym (length-map xs view) ∙ ap length are ∙ length-range f 0 count in
    let within : n < count = omega arith in
    let here : view old ≡ f n = ap view is ∙ sym (get_or-map view xs n old (view old) inside) ∙ ap (λ ys. get_or ys n (view old)) are ∙ get-range f 0 count n n (view old) within (omega arith) in
    map-set view xs n new ∙ ap (λ ys. set ys n (view new)) are ∙ set-range f g 0 count n n (view new) within (omega arith) (step here) others

-- ---- one more core

cores-own : (cores : List (ℕ × List Constraint)) (x : ℕ × List Constraint) → cores_with_number x.0 (cores ++ x ∷ []) ≡ cores_with_number x.0 cores ++ x.1 ∷ []
cores-own cores x =
    ap (map (λ (c : ℕ × List Constraint). c.1)) (filter-append (has_number x.0) cores (x ∷ []) ∙ ap (λ b. filter (has_number x.0) cores ++ cond b (x ∷ []) []) (itself x.0))
    ∙ map-append (λ (c : ℕ × List Constraint). c.1) (filter (has_number x.0) cores) (x ∷ [])

cores-other : (cores : List (ℕ × List Constraint)) (x : ℕ × List Constraint) (k : ℕ) → (x.0 == k) ≡ false → cores_with_number k (cores ++ x ∷ []) ≡ cores_with_number k cores
cores-other cores x k other =
    ap (map (λ (c : ℕ × List Constraint). c.1)) (filter-append (has_number k) cores (x ∷ []) ∙ ap (λ b. filter (has_number k) cores ++ cond b (x ∷ []) []) other ∙ append-nil (filter (has_number k) cores))

pub with-own : (cores more : List (ℕ × List Constraint)) (x : ℕ × List Constraint) (old new part : PartView) → more ≡ cores ++ x ∷ [] → new.cores ≡ old.cores ++ x.1 ∷ [] → new.shares ≡ old.shares
    → old ≡ with_cores cores x.0 part → new ≡ with_cores more x.0 part
with-own cores more x old new part is grown kept before =
    let all : new.cores ≡ part.cores ++ cores_with_number x.0 more =
    grown ∙ ap (λ (p : PartView). p.cores ++ x.1 ∷ []) before ∙ append_assoc part.cores (cores_with_number x.0 cores) (x.1 ∷ [])
    ∙ ap (λ cs. part.cores ++ cs) (sym (cores-own cores x) ∙ ap (cores_with_number x.0) (sym is)) in
    ap₂ (λ cores shares. record { cores = cores; shares = shares }) all (kept ∙ ap (λ (p : PartView). p.shares) before)

pub with-other : (cores more : List (ℕ × List Constraint)) (x : ℕ × List Constraint) (k : ℕ) (part : PartView) → more ≡ cores ++ x ∷ [] → (x.0 == k) ≡ false → with_cores more k part ≡ with_cores cores k part
with-other cores more x k part is other =
    ap (λ cs. record { cores = part.cores ++ cs; shares = part.shares }) (ap (cores_with_number k) is ∙ cores-other cores x k other)

pub with-none : (f : ℕ → PartView) (count : ℕ) → map f (below count) ≡ map (λ k. with_cores [] k (f k)) (below count)
with-none f count = (λ i. map (λ k. kept k i) (below count))
  where
    kept : (k : ℕ) → f k ≡ with_cores [] k (f k)
    kept k = ap (λ cores. record { cores = cores; shares = (f k).shares }) (sym (append-nil (f k).cores))

-- ---- one more package

pub not-before : (numbers : List ℕ) (i : ℕ) → IsStrictlyIncreasing numbers → i < length numbers → members_of (take i numbers) (get_or numbers i 0) ≡ false
not-before [] i rising inside = absurd (omega arith)
not-before (x ∷ xs) zero rising inside = refl
not-before (x ∷ xs) (suc i) rising inside =
    let within : i < length xs = omega arith in
    let above : x < get_or xs i 0 = above_first x xs rising (get_or xs i 0) (at_members_of xs i within) in
    rw (unlike x (get_or xs i 0) above) (not-before xs i (rising_tail x xs rising) within)

pub share-own : (numbers : List ℕ) (i : ℕ) (share : ℕ × Bool) (old new part : PartView) → IsStrictlyIncreasing numbers → i < length numbers → new.cores ≡ old.cores → new.shares ≡ old.shares ++ share ∷ []
    → old ≡ with_share share (members_of (take i numbers) (get_or numbers i 0)) part → new ≡ with_share share (members_of (take (i + 1) numbers) (get_or numbers i 0)) part
share-own numbers i share old new part rising inside kept grown before =
    let n = get_or numbers i 0 in
    let none : members_of (take i numbers) n ≡ false = not-before numbers i rising inside in
    let some : members_of (take (i + 1) numbers) n ≡ true = members-more numbers i n inside ∙ rw (none, itself n) refl in
    let was : old ≡ with_share share false part = before ∙ ap (λ b. with_share share b part) none in
    ap₂ (λ cores shares. record { cores = cores; shares = shares }) (kept ∙ ap (λ (p : PartView). p.cores) was)
    (grown ∙ ap (λ (p : PartView). p.shares ++ share ∷ []) was ∙ ap (λ front. front ++ share ∷ []) (append-nil part.shares))
    ∙ ap (λ b. with_share share b part) (sym some)

pub share-other : (numbers : List ℕ) (i k : ℕ) (share : ℕ × Bool) (part : PartView) → i < length numbers → (get_or numbers i 0 == k) ≡ false
    → with_share share (members_of (take (i + 1) numbers) k) part ≡ with_share share (members_of (take i numbers) k) part
share-other numbers i k share part inside other =
    ap (λ b. with_share share b part) (members-more numbers i k inside ∙ ap (λ b. members_of (take i numbers) k || b) other ∙ or_false (members_of (take i numbers) k))

pub share-none : (share : ℕ × Bool) (f : ℕ → PartView) (count : ℕ) → map f (below count) ≡ map (λ k. with_share share false (f k)) (below count)
share-none share f count = (λ i. map (λ k. kept k i) (below count))
  where
    kept : (k : ℕ) → f k ≡ with_share share false (f k)
    kept k = ap (λ shares. record { cores = (f k).cores; shares = shares }) (sym (append-nil (f k).shares))

-- one that fails
pub all-stops : {A B : Type 0} (test : B → Bool) (f : A → B) (xs : List A) (i : ℕ) (d : A) → i < length xs → test (f (get_or xs i d)) ≡ false → list_all test (map f xs) ≡ false
all-stops test f [] i d inside fails = absurd (omega arith)
all-stops test f (x ∷ xs) zero d inside fails = rw fails refl
all-stops test f (x ∷ xs) (suc i) d inside fails =
    let within : i < length xs = omega arith in
    ap (λ b. test (f x) && b) (all-stops test f xs i d within fails) ∙ and_false (test (f x))
  where
    and_false : (b : Bool) → (b && false) ≡ false
    and_false true = refl
    and_false false = refl

pub number-below : (bound q : ℕ) (cores : List NumberedCore) → All (λ (core : NumberedCore). core.number < bound) cores → list_any (has_number q) (map core_view cores) ≡ true → q < bound
number-below bound q [] all has = absurd (false≢true has)
number-below bound q (x ∷ xs) all has =
    elim (or_cases (x.number == q) (list_any (has_number q) (map core_view xs)) has) [
      | inl here ↦ subst (λ n. n < bound) (eqb-true x.number q here) (All-head (λ (core : NumberedCore). core.number < bound) x xs all)
      | inr later ↦ number-below bound q xs (All-tail (λ (core : NumberedCore). core.number < bound) x xs all) later
    ]

-- what has a number among the packages, and one more
pub part-more : (packages : List (ℕ × List (ℕ × List Constraint))) (one : ℕ × List (ℕ × List Constraint)) (has : Bool) (k : ℕ) → has ≡ list_any (has_number k) one.1
    → with_share (share_of one) has (with_cores one.1 k (part_of packages k)) ≡ part_of (packages ++ one ∷ []) k
part-more packages one has k is =
    let cores_in : ℕ × List (ℕ × List Constraint) → List (ℕ × List Constraint) = λ p. p.1 in
    let kept : ℕ × List (ℕ × List Constraint) → Bool = λ p. list_any (has_number k) p.1 in
    let all : flat_map cores_in (packages ++ one ∷ []) ≡ flat_map cores_in packages ++ one.1 =
    flat_map-append cores_in packages (one ∷ []) ∙ ap (λ last. flat_map cores_in packages ++ last) (append-nil one.1) in
    let cores : cores_with_number k (flat_map cores_in packages) ++ cores_with_number k one.1 ≡ cores_with_number k (flat_map cores_in (packages ++ one ∷ [])) =
    sym (ap (cores_with_number k) all ∙ ap (map (λ (c : ℕ × List Constraint). c.1)) (filter-append (has_number k) (flat_map cores_in packages) one.1)
    ∙ map-append (λ (c : ℕ × List Constraint). c.1) (filter (has_number k) (flat_map cores_in packages)) (filter (has_number k) one.1)) in
    let shares : map share_of (filter kept packages) ++ cond has (share_of one ∷ []) [] ≡ map share_of (filter kept (packages ++ one ∷ [])) =
    sym (ap (map share_of) (filter-append kept packages (one ∷ [])) ∙ map-append share_of (filter kept packages) (filter kept (one ∷ []))
    ∙ ap (λ last. map share_of (filter kept packages) ++ last) (alone (kept one) has is)) in
    ap₂ (λ cs ss. record { cores = cs; shares = ss }) cores shares
  where
    alone : (b has : Bool) → has ≡ b → map share_of (cond b (one ∷ []) []) ≡ cond has (share_of one ∷ []) []
    alone true has e = rw e refl
    alone false has e = rw e refl
