-- The keys of causes.
use Rattle.std.proofs.Common.{◌≡◌, ℕ, suc, zero, ◌==◌, ◌||◌, ◌&&◌, Bool, true, false, List, [], ◌∷◌, All, map, slice_get, Option, Some, None, refl, sym, ap, ap₂, ◌∙◌, subst, arith, inl, inr}
use Rattle.std.specs.List.{list_all, list_any}
use Rattle.std.specs.List.Sorted.{IsStrictlyIncreasing}
use Rattle.std.specs.Option.{option_map_or}
use Rattle.std.specs.Str.{bytes_eq}
use Rattle.std.proofs.lemmas.Bool.{and_parts, false≢true, or_cases, or_left, or_right}
use Rattle.std.proofs.lemmas.Bool.Decides.{nat_tests}
use Rattle.std.proofs.lemmas.List.Elements.{All-cons, All-head, All-nil, All-tail}
use Rattle.deb_index.specs.declared.constraint.Constraint.{Constraint}
use Rattle.deb_index.specs.Packages.{IndexView, places_where}
use Rattle.deb_index.specs.Tables.{number_in}
use Rattle.deb_index.proofs.FirstLemmas.{name-itself, other-name, same-name}
use Rattle.deb_index.proofs.MemberLemmas.{member-places_where, rising-places_where}
use Rattle.deb_index.proofs.TableLemmas.{IsApart, first-apart, some-any}
use Rattle.number_sets.specs.Sets.{members_of}
use Rattle.number_sets.proofs.ListMembers.{same_test}
use Rattle.number_sets.proofs.RisingLists.{rising_once}
use Rattle.deb_causes.specs.Causes.{is_said, same_cause, says}
use Rattle.deb_causes.specs.Numbering.{StandOnce}
use Rattle.deb_causes.specs.Wrongs.{IsKnown, is_text_of, key_of, number_said}

pub once-apart : (texts : List (List ℕ)) → StandOnce texts → IsApart texts
once-apart texts once = subst IsApart (sym once.1) (first-apart once.0)

none-some : (i : ℕ) → None ≡ Some i → ⊥
none-some i e = cc

some-same : (i j : ℕ) → Some i ≡ Some j → i ≡ j
some-same i j e = cc

zero-suc : (n : ℕ) → (0 == suc n) ≡ false
zero-suc n = grind (arith, nat_tests)

suc-zero : (n : ℕ) → (suc n == 0) ≡ false
suc-zero n = grind (arith, nat_tests)

suc-suc : (m n : ℕ) → (suc m == suc n) ≡ (m == n)
suc-suc m n = grind (arith, nat_tests)

-- ---- where a text stands

not-there : (text : List ℕ) (texts : List (List ℕ)) (q : ℕ) → list_any (bytes_eq text) texts ≡ false → option_map_or (λ other. bytes_eq other text) (slice_get texts q) false ≡ false
not-there text [] q none = refl
not-there text (k ∷ ks) q none = by (bytes_eq text k) refl q (not-there text ks)
  where
    by : (t : Bool) → bytes_eq text k ≡ t → (q : ℕ) → ((r : ℕ) → list_any (bytes_eq text) ks ≡ false → option_map_or (λ other. bytes_eq other text) (slice_get ks r) false ≡ false)
        → option_map_or (λ other. bytes_eq other text) (slice_get (k ∷ ks) q) false ≡ false
    by true e q ih = absurd (false≢true (sym none ∙ rw e refl))
    by false e zero ih = other-name text k e
    by false e (suc q) ih = ih q (rw e at none)

pub number-test : (text : List ℕ) (texts : List (List ℕ)) (n q : ℕ) → IsApart texts → number_in text texts ≡ Some n → (n == q) ≡ option_map_or (λ other. bytes_eq other text) (slice_get texts q) false
number-test text [] n q apart e = absurd (none-some n e)
number-test text (k ∷ ks) n q apart e = by (bytes_eq text k) (number_in text ks) refl refl q (λ j r h. number-test text ks j r apart.1 h)
  where
    Behind : Type 0
    Behind = (j r : ℕ) → number_in text ks ≡ Some j → (j == r) ≡ option_map_or (λ other. bytes_eq other text) (slice_get ks r) false

    first : bytes_eq text k ≡ true → (q : ℕ) → (0 == q) ≡ option_map_or (λ other. bytes_eq other text) (slice_get (k ∷ ks) q) false
    first t zero = sym (ap (λ other. bytes_eq k other) (same-name text k t) ∙ name-itself k)
    first t (suc q) = zero-suc q ∙ sym (ap (λ other. option_map_or (λ o. bytes_eq o other) (slice_get ks q) false) (same-name text k t) ∙ not-there k ks q apart.0)

    later : (j : ℕ) → bytes_eq text k ≡ false → number_in text ks ≡ Some j → (q : ℕ) → Behind → (suc j == q) ≡ option_map_or (λ other. bytes_eq other text) (slice_get (k ∷ ks) q) false
    later j t h zero ih = suc-zero j ∙ sym (other-name text k t)
    later j t h (suc q) ih = suc-suc j q ∙ ih j q h

    by : (t : Bool) (m : Option ℕ) → bytes_eq text k ≡ t → number_in text ks ≡ m → (q : ℕ) → Behind → (n == q) ≡ option_map_or (λ other. bytes_eq other text) (slice_get (k ∷ ks) q) false
    by true m t h q ih = let z : 0 ≡ n = some-same 0 n (rw t at e) in ap (λ x. x == q) (sym z) ∙ first t q
    by false None t h q ih = absurd (none-some n (rw (t, h) at e))
    by false (Some j) t h q ih = let z : suc j ≡ n = some-same (suc j) n (rw (t, h) at e) in ap (λ x. x == q) (sym z) ∙ later j t h q ih

-- ---- the numbers of what a cause says are its key

either-in : {A : Type 0} (p r : A → Bool) (o : Option A) → (option_map_or p o false || option_map_or r o false) ≡ option_map_or (λ x. p x || r x) o false
either-in p r None = refl
either-in p r (Some x) = refl

never-in : {A : Type 0} (o : Option A) → false ≡ option_map_or (λ (x : A). false) o false
never-in None = refl
never-in (Some x) = refl

numbers-members : (index : IndexView) (texts : List (List ℕ)) (cause : List Constraint) (numbers : List ℕ) (q : ℕ) → IsApart texts → map (λ n. Some n) numbers ≡ map (number_said index texts) cause
    → members_of numbers q ≡ option_map_or (is_text_of index cause) (slice_get texts q) false
numbers-members index texts [] [] q apart are = never-in (slice_get texts q)
numbers-members index texts [] (n ∷ ns) q apart are = cc
numbers-members index texts (c ∷ cs) [] q apart are = cc
numbers-members index texts (c ∷ cs) (n ∷ ns) q apart are =
    let head : number_in (says index c) texts ≡ Some n = cc in
    let tail : map (λ m. Some m) ns ≡ map (number_said index texts) cs = cc in
    ap₂ (λ a b. a || b) (number-test (says index c) texts n q apart head) (numbers-members index texts cs ns q apart tail)
    ∙ either-in (λ text. bytes_eq text (says index c)) (is_text_of index cs) (slice_get texts q)

pub numbers-key : (index : IndexView) (texts : List (List ℕ)) (cause : List Constraint) (numbers sorted : List ℕ) → StandOnce texts → map (λ n. Some n) numbers ≡ map (number_said index texts) cause
    → IsStrictlyIncreasing sorted → ((q : ℕ) → members_of sorted q ≡ members_of numbers q) → sorted ≡ key_of index texts cause
numbers-key index texts cause numbers sorted once are rising same =
    rising_once sorted (key_of index texts cause) rising (rising-places_where (is_text_of index cause) texts)
    (λ q. same q ∙ numbers-members index texts cause numbers q (once-apart texts once) are ∙ sym (member-places_where (is_text_of index cause) texts q))

-- ---- one key is one cause

there : (text : List ℕ) (texts : List (List ℕ)) → list_any (bytes_eq text) texts ≡ true → (q : ℕ) × (slice_get texts q ≡ Some text)
there text [] e = absurd (false≢true e)
there text (k ∷ ks) e =
    elim (or_cases (bytes_eq text k) (list_any (bytes_eq text) ks) e) [
      | inl here ↦ (0, ap Some (sym (same-name text k here)))
      | inr later ↦ let at = there text ks later in (suc at.0, at.1)
    ]

in-key : (index : IndexView) (texts : List (List ℕ)) (cause : List Constraint) (text : List ℕ) (q : ℕ) → slice_get texts q ≡ Some text → members_of (key_of index texts cause) q ≡ is_text_of index cause text
in-key index texts cause text q at = member-places_where (is_text_of index cause) texts q ∙ ap (λ o. option_map_or (is_text_of index cause) o false) at

one-key-says : (index : IndexView) (texts : List (List ℕ)) (a b : List Constraint) → key_of index texts a ≡ key_of index texts b
    → (xs : List Constraint) → All (IsKnown index texts) xs → list_all (is_said index b) xs ≡ list_all (is_said index a) xs
one-key-says index texts a b one [] known = refl
one-key-says index texts a b one (x ∷ xs) known =
    let at = there (says index x) texts (All-head (IsKnown index texts) x xs known) in
    let same : is_said index b x ≡ is_said index a x =
    sym (in-key index texts b (says index x) at.0 at.1) ∙ ap (λ key. members_of key at.0) (sym one) ∙ in-key index texts a (says index x) at.0 at.1 in
    ap₂ (λ p q. p && q) same (one-key-says index texts a b one xs (All-tail (IsKnown index texts) x xs known))

pub said-within : (index : IndexView) (a xs : List Constraint) → ((c : Constraint) → is_said index xs c ≡ true → is_said index a c ≡ true) → list_all (is_said index a) xs ≡ true
said-within index a [] within = refl
said-within index a (x ∷ xs) within =
    let here : is_said index a x ≡ true = within x (or_left (bytes_eq (says index x) (says index x)) (is_said index xs x) (name-itself (says index x))) in
    rw here (said-within index a xs (λ c said. within c (or_right (bytes_eq (says index c) (says index x)) (is_said index xs c) said)))

pub said-itself : (index : IndexView) (a : List Constraint) → list_all (is_said index a) a ≡ true
said-itself index a = said-within index a a (λ c said. said)

-- a text that the one says the other says, where it says all that the one does
pub said-too : (index : IndexView) (text : List ℕ) (b a : List Constraint) → list_all (is_said index b) a ≡ true → is_text_of index a text ≡ true → is_text_of index b text ≡ true
said-too index text b [] all is = absurd (false≢true is)
said-too index text b (x ∷ xs) all is =
    let parts = and_parts (is_said index b x) (list_all (is_said index b) xs) all in
    elim (or_cases (bytes_eq text (says index x)) (is_text_of index xs text) is) [
      | inl here ↦ ap (is_text_of index b) (same-name text (says index x) here) ∙ parts.0
      | inr later ↦ said-too index text b xs parts.1 later
    ]

pub same-key : (index : IndexView) (texts : List (List ℕ)) (a b : List Constraint) → All (IsKnown index texts) a → All (IsKnown index texts) b
    → bytes_eq (key_of index texts a) (key_of index texts b) ≡ same_cause index a b
same-key index texts a b known also =
    same_test (bytes_eq (key_of index texts a) (key_of index texts b)) (same_cause index a b)
    (λ is.
    let one : key_of index texts a ≡ key_of index texts b = same-name (key_of index texts a) (key_of index texts b) is in
    let front : list_all (is_said index b) a ≡ true = one-key-says index texts a b one a known ∙ said-itself index a in
    let back : list_all (is_said index a) b ≡ true = one-key-says index texts b a (sym one) b also ∙ said-itself index b in
    rw (front, back) refl)
    (λ same.
    let parts = and_parts (list_all (is_said index b) a) (list_all (is_said index a) b) same in
    let alike : (text : List ℕ) → is_text_of index a text ≡ is_text_of index b text =
    λ text. same_test (is_text_of index a text) (is_text_of index b text) (said-too index text b a parts.0) (said-too index text a b parts.1) in
    let one : key_of index texts a ≡ key_of index texts b = λ i. places_where (λ text. alike text i) texts in
    ap (bytes_eq (key_of index texts a)) (sym one) ∙ name-itself (key_of index texts a))

pub known-all : (index : IndexView) (texts : List (List ℕ)) (cause : List Constraint) (numbers : List ℕ) → map (λ n. Some n) numbers ≡ map (number_said index texts) cause → All (IsKnown index texts) cause
known-all index texts [] numbers are = All-nil (IsKnown index texts)
known-all index texts (c ∷ cs) [] are = cc
known-all index texts (c ∷ cs) (n ∷ ns) are =
    let head : number_in (says index c) texts ≡ Some n = cc in
    let tail : map (λ m. Some m) ns ≡ map (number_said index texts) cs = cc in
    All-cons (IsKnown index texts) c cs (some-any (says index c) texts n head) (known-all index texts cs ns tail)
