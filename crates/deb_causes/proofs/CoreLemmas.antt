-- What is told of cores: what they say is wrong, their needs by position, and the versions that they ask for.
use Rattle.std.proofs.Common.{◌≡◌, ℕ, suc, ◌+◌, ◌<◌, ◌≤◌, ◌==◌, ◌&&◌, ◌||◌, ◌⊎◌, Bool, true, false, cond, List, [], ◌∷◌, ◌++◌, All, filter, length, map, Option, Some, None, slice_get, refl, sym, ap, ap₂, ◌∙◌, arith, inl, inr}
use Rattle.std.specs.List.{flat_map, list_any}
use Rattle.std.specs.List.Sorted.{IsStrictlyIncreasing}
use Rattle.std.specs.Option.{option_map_or}
use Rattle.std.specs.Str.{bytes_eq}
use Rattle.std.proofs.lemmas.Bool.{and_left, and_parts, cases_Bool, eq-eqb, eqb-true, false≢true, or_cases, or_from, or_left, or_parts, or_right}
use Rattle.std.proofs.lemmas.List.{map-append}
use Rattle.std.proofs.lemmas.List.Elements.{All-same, filter-append}
use Rattle.std.proofs.lemmas.List.Folds.{list_any-append}
use Rattle.std.proofs.lemmas.Option.{slice_get_past}
use Rattle.deb_index.specs.declared.constraint.Constraint.{Constraint}
use Rattle.deb_index.specs.declared.constraint.Constraint.TheVariants.{Essential, Need, Apart, Only}
use Rattle.deb_index.specs.Constraints.{answers, constraints_of, has_name}
use Rattle.deb_index.specs.Meets.{group_satisfiers, meets_need}
use Rattle.deb_index.specs.Packages.{IndexView, PackageView, first_of_each, is_named, name_at, need_at, places_of, places_where}
use Rattle.deb_index.proofs.FirstLemmas.{any-map, first-push}
use Rattle.deb_index.proofs.HoldsLemmas.{group-at}
use Rattle.deb_index.proofs.MemberLemmas.{below-places_where, member-places_where, rising-places_where, where_from}
use Rattle.deb_index.proofs.PositionLemmas.{one_position}
use Rattle.deb_index.proofs.TableLemmas.{any-turned, names-chain}
use Rattle.deb_health.specs.Causes.{cause_in, is_final}
use Rattle.number_sets.specs.Sets.{members_of, Grows}
use Rattle.number_sets.proofs.ListMembers.{same_test}
use Rattle.number_sets.proofs.RisingLists.{rising_once}
use Rattle.number_sets.proofs.ListLemmas.{or_assoc, or_false}
use Rattle.number_sets.proofs.PlaceLemmas.{places_from}
use Rattle.deb_index.proofs.BelowLemmas.{rising-below}
use Rattle.deb_causes.specs.Causes.{is_answer_to, is_need, is_version_in, is_version_of, needs_in, same_constraint, says, says_same, versions_in, is_need_among, is_need_at, is_only}
use Rattle.deb_causes.specs.Numbering.{with_text}
use Rattle.deb_causes.proofs.GatheringLemmas.{itself}

-- ---- the first of each that say the same

said-there : (index : IndexView) (cause wrongs : List Constraint) (x : Constraint) (texts : List (List ℕ)) → wrongs ≡ first_of_each (says_same index) cause → texts ≡ map (says index) wrongs
    → list_any (λ y. says_same index y x) (first_of_each (says_same index) cause) ≡ list_any (bytes_eq (says index x)) texts
said-there index cause wrongs x texts firsts are =
    ap (list_any (λ y. says_same index y x)) (sym firsts)
    ∙ sym (any-map (λ text. bytes_eq text (says index x)) (says index) wrongs)
    ∙ any-turned (says index x) (map (says index) wrongs)
    ∙ ap (list_any (bytes_eq (says index x))) (sym are)

wrongs-more : (index : IndexView) (cause more : List Constraint) (x : Constraint) (b : Bool) → more ≡ cause ++ x ∷ [] → list_any (λ y. says_same index y x) (first_of_each (says_same index) cause) ≡ b
    → first_of_each (says_same index) more ≡ cond b (first_of_each (says_same index) cause) (first_of_each (says_same index) cause ++ x ∷ [])
wrongs-more index cause more x b is there =
    let firsts : List Constraint = first_of_each (says_same index) cause in
    ap (first_of_each (says_same index)) is
    ∙ first-push (says_same index) (λ d e f. names-chain (says index d) (says index e) (says index f)) cause x
    ∙ ap (λ c. cond c firsts (firsts ++ x ∷ [])) there

-- a constraint whose text is new, and one whose text is there
pub wrong-new : (index : IndexView) (cause more wrongs : List Constraint) (x : Constraint) (texts new : List (List ℕ)) → more ≡ cause ++ x ∷ [] → wrongs ≡ first_of_each (says_same index) cause
    → texts ≡ map (says index) wrongs → new ≡ with_text texts (says index x) → list_any (bytes_eq (says index x)) texts ≡ false → (new ≡ map (says index) (wrongs ++ x ∷ [])) × (wrongs ++ x ∷ [] ≡ first_of_each (says_same index) more)
wrong-new index cause more wrongs x texts new is firsts are grown e = (
  grown ∙ ap (λ b. cond b texts (texts ++ says index x ∷ [])) e ∙ ap (λ ts. ts ++ says index x ∷ []) are ∙ sym (map-append (says index) wrongs (x ∷ [])),
  ap (λ ws. ws ++ x ∷ []) firsts ∙ sym (wrongs-more index cause more x false is (said-there index cause wrongs x texts firsts are ∙ e)),
)

pub wrong-known : (index : IndexView) (cause more wrongs : List Constraint) (x : Constraint) (texts new : List (List ℕ)) → more ≡ cause ++ x ∷ [] → wrongs ≡ first_of_each (says_same index) cause
    → texts ≡ map (says index) wrongs → new ≡ with_text texts (says index x) → list_any (bytes_eq (says index x)) texts ≡ true → (new ≡ map (says index) wrongs) × (wrongs ≡ first_of_each (says_same index) more)
wrong-known index cause more wrongs x texts new is firsts are grown e = (
  grown ∙ ap (λ b. cond b texts (texts ++ says index x ∷ [])) e ∙ are,
  firsts ∙ sym (wrongs-more index cause more x true is (said-there index cause wrongs x texts firsts are ∙ e)),
)

-- ---- needs by their positions

pub both-needs : (index : IndexView) (xs ys : List Constraint) (k : ℕ) → is_need_at index (xs ++ ys) k ≡ (is_need_at index xs k || is_need_at index ys k)
both-needs index xs ys k = by (slice_get (constraints_of index) k)
  where
    parted : (a b c : Bool) → (a && (b || c)) ≡ ((a && b) || (a && c))
    parted true b c = refl
    parted false b c = refl

    by : (o : Option Constraint) → option_map_or (is_need_among (xs ++ ys)) o false ≡ (option_map_or (is_need_among xs) o false || option_map_or (is_need_among ys) o false)
    by None = refl
    by (Some one) =
        ap (λ b. is_need one && b) (list_any-append (same_constraint one) xs ys) ∙ parted (is_need one) (list_any (same_constraint one) xs) (list_any (same_constraint one) ys)

same-need : (one : Constraint) (place number : ℕ) → is_need_among (Need place number ∷ []) one ≡ true → one ≡ Need place number
same-need (Essential name) place number is = absurd (false≢true is)
same-need (Need other part) place number is =
    let parts = and_parts (other == place) (part == number) (sym (or_false (other == place && part == number)) ∙ is) in
    ap₂ (λ a b. Need a b) (eqb-true other place parts.0) (eqb-true part number parts.1)
same-need (Apart other part) place number is = absurd (false≢true is)
same-need (Only name) place number is = absurd (false≢true is)

need-there : (o : Option Constraint) (place number : ℕ) → option_map_or (is_need_among (Need place number ∷ [])) o false ≡ true → o ≡ Some (Need place number)
need-there None place number is = absurd (false≢true is)
need-there (Some one) place number is = ap Some (same-need one place number is)

one-need : (index : IndexView) (place number position k : ℕ) → slice_get (constraints_of index) position ≡ Some (Need place number) → is_need_at index (Need place number ∷ []) k ≡ (position == k)
one-need index place number position k at =
    same_test (is_need_at index (Need place number ∷ []) k) (position == k)
    (λ is. eq-eqb position k (one_position index position k (Need place number) at (need-there (slice_get (constraints_of index) k) place number is)))
    (λ same.
    let found : slice_get (constraints_of index) k ≡ Some (Need place number) = ap (slice_get (constraints_of index)) (sym (eqb-true position k same)) ∙ at in
    ap (λ o. option_map_or (is_need_among (Need place number ∷ [])) o false) found ∙ rw (itself place, itself number) refl)

-- a position that was pushed is that of the next need
pub need-pushed : (index : IndexView) (first : Bool) (old new : List ℕ) (cause more : List Constraint) (place number position k : ℕ) → new ≡ old ++ position ∷ [] → more ≡ cause ++ Need place number ∷ []
    → slice_get (constraints_of index) position ≡ Some (Need place number) → members_of old k ≡ (first || is_need_at index cause k) → members_of new k ≡ (first || is_need_at index more k)
need-pushed index first old new cause more place number position k is grown at before =
    ap (λ positions. members_of positions k) is
    ∙ list_any-append (λ member. member == k) old (position ∷ [])
    ∙ ap₂ (λ a b. a || b) before (or_false (position == k) ∙ sym (one-need index place number position k at))
    ∙ or_assoc first (is_need_at index cause k) (is_need_at index (Need place number ∷ []) k)
    ∙ ap (λ b. first || b) (sym (both-needs index cause (Need place number ∷ []) k) ∙ ap (λ constraints. is_need_at index constraints k) (sym grown))

none-like : (x one : Constraint) → is_need x ≡ false → is_need_among (x ∷ []) one ≡ false
none-like x (Essential name) other = refl
none-like (Essential name) (Need place number) other = refl
none-like (Need apart part) (Need place number) other = absurd (false≢true (sym other))
none-like (Apart apart part) (Need place number) other = refl
none-like (Only name) (Need place number) other = refl
none-like x (Apart place number) other = refl
none-like x (Only name) other = refl

no-need : (index : IndexView) (x : Constraint) (k : ℕ) → is_need x ≡ false → is_need_at index (x ∷ []) k ≡ false
no-need index x k other = by (slice_get (constraints_of index) k)
  where
    by : (o : Option Constraint) → option_map_or (is_need_among (x ∷ [])) o false ≡ false
    by None = refl
    by (Some one) = none-like x one other

pub no-need-from : (x : Constraint) → ((place number : ℕ) → x ≡ Need place number → ⊥) → is_need x ≡ false
no-need-from (Essential name) not = refl
no-need-from (Need place number) not = absurd (not place number refl)
no-need-from (Apart place number) not = refl
no-need-from (Only name) not = refl

-- one constraint more that is none
pub need-passed : (index : IndexView) (core more : List Constraint) (x : Constraint) (k : ℕ) → more ≡ core ++ x ∷ [] → is_need x ≡ false
    → is_need_at index (cause_in index more) k ≡ is_need_at index (cause_in index core) k
need-passed index core more x k is other =
    ap (λ constraints. is_need_at index constraints k) (ap (cause_in index) is ∙ filter-append (is_final index) core (x ∷ []))
    ∙ both-needs index (cause_in index core) (cause_in index (x ∷ [])) k
    ∙ ap (λ b. is_need_at index (cause_in index core) k || b) (by (is_final index x))
    ∙ or_false (is_need_at index (cause_in index core) k)
  where
    nothing : (o : Option Constraint) → option_map_or (is_need_among []) o false ≡ false
    nothing None = refl
    nothing (Some one) = and_false (is_need one)
      where
        and_false : (b : Bool) → (b && false) ≡ false
        and_false true = refl
        and_false false = refl

    by : (final : Bool) → is_need_at index (cond final (x ∷ []) []) k ≡ false
    by true = no-need index x k other
    by false = nothing (slice_get (constraints_of index) k)

need-places : (index : IndexView) (constraints : List Constraint) (positions : List ℕ) → IsStrictlyIncreasing positions → ((k : ℕ) → members_of positions k ≡ is_need_at index constraints k)
    → positions ≡ places_where (is_need_among constraints) (constraints_of index)
need-places index constraints positions rising same =
    rising_once positions (places_where (is_need_among constraints) (constraints_of index)) rising (rising-places_where (is_need_among constraints) (constraints_of index))
    (λ k. same k ∙ sym (member-places_where (is_need_among constraints) (constraints_of index) k))

pub needs-within : (index : IndexView) (constraints : List Constraint) (positions : List ℕ) → IsStrictlyIncreasing positions → ((k : ℕ) → members_of positions k ≡ is_need_at index constraints k)
    → All (λ k. k < length (constraints_of index)) positions
needs-within index constraints positions rising same =
    All-same (λ k. k < length (constraints_of index)) positions (places_where (is_need_among constraints) (constraints_of index)) (need-places index constraints positions rising same)
    (below-places_where (is_need_among constraints) (constraints_of index))

-- what stands at the places where a test passes
got-from : {A : Type 0} (test : A → Bool) (got : ℕ → Option A) (n : ℕ) (xs : List A) → ((q : ℕ) → got (n + q) ≡ slice_get xs q) → map got (places_from test n xs) ≡ map Some (filter test xs)
got-from test got n [] same = refl
got-from {A = A} test got n (x ∷ xs) same =
    let start : n + 0 ≡ n = omega arith in
    let here : got n ≡ Some x = ap got (sym start) ∙ same 0 in
    let later : map got (places_from test (n + 1) xs) ≡ map Some (filter test xs) =
    got-from test got (n + 1) xs (λ q. let next : n + 1 + q ≡ n + suc q = omega arith in ap got next ∙ same (suc q)) in
    elim (cases_Bool (test x)) [
      | inl passes ↦ rw passes (ap₂ (λ (o : Option A) os. o ∷ os) here later)
      | inr fails ↦ rw fails later
    ]

same-somes : {A : Type 0} (xs ys : List A) → map (λ x. Some x) xs ≡ map (λ x. Some x) ys → xs ≡ ys
same-somes [] [] e = refl
same-somes [] (y ∷ ys) e = cc
same-somes (x ∷ xs) [] e = cc
same-somes (x ∷ xs) (y ∷ ys) e =
    let head : x ≡ y = cc in
    let tail : map (λ z. Some z) xs ≡ map (λ z. Some z) ys = cc in
    ap₂ (λ z zs. z ∷ zs) head (same-somes xs ys tail)

pub needs-are : (index : IndexView) (cores : List (List Constraint)) (positions : List ℕ) (needs : List Constraint) → IsStrictlyIncreasing positions
    → ((k : ℕ) → members_of positions k ≡ is_need_at index (flat_map (cause_in index) cores) k) → map (slice_get (constraints_of index)) positions ≡ map Some needs → needs ≡ needs_in index cores
unfolding needs_in
needs-are index cores positions needs rising same stand =
    let test : Constraint → Bool = is_need_among (flat_map (cause_in index) cores) in
    same-somes needs (filter test (constraints_of index))
    (sym stand
    ∙ ap (map (slice_get (constraints_of index))) (need-places index (flat_map (cause_in index) cores) positions rising same ∙ where_from test (constraints_of index))
    ∙ got-from test (slice_get (constraints_of index)) 0 (constraints_of index) (λ q. let start : 0 + q ≡ q = omega arith in ap (slice_get (constraints_of index)) start))

-- ---- the packages that answer a need of a core

pub answer-added : (index : IndexView) (place number q : ℕ) (old new row : List ℕ) → row ≡ group_satisfiers index (need_at index place number)
    → ((count : ℕ) → All (λ other. other < count) row → Grows count old new) → ((r : ℕ) → members_of row r ≡ true → members_of new r ≡ true)
    → ((r : ℕ) → members_of new r ≡ true → (members_of old r ≡ true) ⊎ (members_of row r ≡ true)) → members_of new q ≡ (members_of old q || is_answer_to index q (Need place number))
answer-added index place number q old new row is grows has only =
    let test : PackageView → Bool = λ deb. list_any (meets_need index.arch deb) (need_at index place number) in
    let inside : All (λ other. other < length index.packages) row = All-same (λ other. other < length index.packages) row (places_where test index.packages) is (below-places_where test index.packages) in
    let kept : members_of old q ≡ true → members_of new q ≡ true =
    λ there. let grown = grows (length index.packages) inside in
    ap (λ places. members_of places q) grown.appended ∙ list_any-append (λ member. member == q) old grown.more ∙ or_left (members_of old q) (members_of grown.more q) there in
    let answering : members_of row q ≡ answers index place number q =
    ap (λ places. members_of places q) is ∙ member-places_where test index.packages q ∙ group-at (meets_need index.arch) (need_at index place number) (slice_get index.packages q) in
    same_test (members_of new q) (members_of old q || members_of row q)
    (λ there. elim (only q there) [
      | inl before ↦ or_left (members_of old q) (members_of row q) before
      | inr added ↦ or_right (members_of old q) (members_of row q) added
    ])
    (λ there. elim (or_cases (members_of old q) (members_of row q) there) [
      | inl before ↦ kept before
      | inr added ↦ has q added
    ])
    ∙ ap (λ b. members_of old q || b) answering

pub no-answer : (index : IndexView) (q : ℕ) (x : Constraint) → is_need x ≡ false → is_answer_to index q x ≡ false
no-answer index q (Essential name) other = refl
no-answer index q (Need place number) other = absurd (false≢true (sym other))
no-answer index q (Apart place number) other = refl
no-answer index q (Only name) other = refl

-- ---- the versions that cores ask for

pub version-added : (index : IndexView) (name q : ℕ) (places : List ℕ) (first answering before : Bool) (old new : List ℕ) → places ≡ places_of index (name_at index name)
    → members_of new q ≡ (members_of old q || (answering && members_of places q)) → members_of old q ≡ (first || (answering && before)) → members_of new q ≡ (first || (answering && (before || is_version_of index q (Only name))))
version-added index name q places first answering before old new is added was =
    added
    ∙ ap₂ (λ a b. a || (answering && b)) was (ap (λ ps. members_of ps q) is ∙ member-places_where (is_named (name_at index name)) index.packages q)
    ∙ joined first answering before (has_name index q name)
  where
    joined : (a b c d : Bool) → ((a || (b && c)) || (b && d)) ≡ (a || (b && (c || d)))
    joined true b c d = refl
    joined false true c d = refl
    joined false false c d = refl

pub no-only-from : (x : Constraint) → ((name : ℕ) → x ≡ Only name → ⊥) → is_only x ≡ false
no-only-from (Essential name) not = refl
no-only-from (Need place number) not = refl
no-only-from (Apart place number) not = refl
no-only-from (Only name) not = absurd (not name refl)

pub no-version : (index : IndexView) (q : ℕ) (x : Constraint) → is_only x ≡ false → is_version_of index q x ≡ false
no-version index q (Essential name) other = refl
no-version index q (Need place number) other = refl
no-version index q (Apart place number) other = refl
no-version index q (Only name) other = absurd (false≢true (sym other))

pub no-versions : (index : IndexView) (q : ℕ) (core : List Constraint) → list_any is_only core ≡ false → list_any (is_version_of index q) core ≡ false
no-versions index q [] none = refl
no-versions index q (x ∷ xs) none =
    let parts = or_parts (is_only x) (list_any is_only xs) none in
    or_from (is_version_of index q x) (list_any (is_version_of index q) xs) (no-version index q x parts.0) (no-versions index q xs parts.1)

-- there is none past the last place
none-past : (index : IndexView) (q : ℕ) (x : Constraint) → length index.packages ≤ q → is_version_of index q x ≡ false
none-past index q (Essential name) past = refl
none-past index q (Need place number) past = refl
none-past index q (Apart place number) past = refl
none-past index q (Only name) past = rw (slice_get_past index.packages q past) refl

core-past : (index : IndexView) (q : ℕ) (core : List Constraint) → length index.packages ≤ q → list_any (is_version_of index q) core ≡ false
core-past index q [] past = refl
core-past index q (x ∷ xs) past = or_from (is_version_of index q x) (list_any (is_version_of index q) xs) (none-past index q x past) (core-past index q xs past)

cores-past : (index : IndexView) (q : ℕ) (cores : List (List Constraint)) → length index.packages ≤ q → list_any (is_version_in index q) cores ≡ false
cores-past index q [] past = refl
cores-past index q (core ∷ cores) past =
    or_from (is_version_in index q core) (list_any (is_version_in index q) cores)
    (and_left (list_any (is_version_of index q) core) (list_any (is_answer_to index q) core) (core-past index q core past)) (cores-past index q cores past)

pub versions-are : (index : IndexView) (cores : List (List Constraint)) (versions : List ℕ) → IsStrictlyIncreasing versions → ((q : ℕ) → members_of versions q ≡ list_any (is_version_in index q) cores)
    → versions ≡ versions_in index cores
unfolding versions_in
versions-are index cores versions rising same = rising-below (λ q. list_any (is_version_in index q) cores) (length index.packages) versions rising same (λ q past. cores-past index q cores past)

and-turned : (a b : Bool) → (a && b) ≡ (b && a)
and-turned true true = refl
and-turned true false = refl
and-turned false true = refl
and-turned false false = refl

-- what a core asks for, of the names of which there may be one version
pub version-in : (index : IndexView) (q : ℕ) (core : List Constraint) (before : Bool) (cleared answering old new : List ℕ) → cleared ≡ []
    → members_of answering q ≡ (members_of cleared q || list_any (is_answer_to index q) core) → members_of new q ≡ (members_of old q || (members_of answering q && list_any (is_version_of index q) core))
    → members_of old q ≡ before → members_of new q ≡ (before || is_version_in index q core)
version-in index q core before cleared answering old new none answers_are added was =
    added ∙ ap₂ (λ a b. a || b) was
    (ap (λ b. b && list_any (is_version_of index q) core) (answers_are ∙ ap (λ places. members_of places q || list_any (is_answer_to index q) core) none)
    ∙ and-turned (list_any (is_answer_to index q) core) (list_any (is_version_of index q) core))
