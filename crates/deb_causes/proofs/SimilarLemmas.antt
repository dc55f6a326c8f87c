-- The first of some names, each once, and the lists of names by stem.
use Rattle.std.proofs.Common.{◌≡◌, ℕ, ◌+◌, ◌<◌, ◌≤◌, Bool, true, false, not, cond, ◌&&◌, ◌||◌, ◌⊎◌, All, Global, HashMap, Vec, List, [], ◌∷◌, ◌++◌, Some, None, Option, drop, filter, get_or, length, map, take, refl, sym, ap, subst, ◌∙◌, append-nil, inl, inr, arith}
use Rattle.std.specs.HashMap.{UpdatesBy, get_by, keys, values}
use Rattle.std.specs.List.{flat_map}
use Rattle.std.specs.Map.{KeepsOthers, lookup}
use Rattle.std.specs.Option.{IfSome, is_some}
use Rattle.std.specs.Str.{bytes_eq}
use Rattle.std.proofs.lemmas.Bool.{cases_Bool, cases_lt, false≢true}
use Rattle.std.proofs.lemmas.Grind.{flat_map-append}
use Rattle.std.proofs.lemmas.List.{length-append, length-take-le, take-append-drop, take-append-le, map-append, take_all, take_more}
use Rattle.std.proofs.lemmas.List.Elements.{All-cons, All-head, All-map, All-more, All-nil, All-tail, All-weaker}
use Rattle.std.proofs.lemmas.List.Folds.{list_any-append}
use Rattle.std.proofs.lemmas.Map.Made.{is_some-lookup}
use Rattle.std.proofs.lemmas.Map.Views.{IfSome-lookup_from_All}
use Rattle.deb_relation.specs.declared.atom.Atom.{Atom}
use Rattle.deb_relation.specs.Relationship.{atom_view, AtomText, is_usable}
use Rattle.deb_index.specs.Packages.{first_of_each}
use Rattle.deb_index.proofs.FirstLemmas.{any-map, first-push, name-itself, names-turned, same-name}
use Rattle.deb_index.proofs.TableLemmas.{any-turned, names-chain}
use Rattle.deb_causes.specs.Near.{first_with_stem, has_stem, is_stem, similar_limit, stem, first_told, has_text}
use Rattle.number_sets.proofs.AtomSteps.{map_more}
use Rattle.number_sets.proofs.ListLemmas.{all_seen, filter_fails, filter_passes}

-- ---- the first of some names, and one name more

module _ (seen : List (List ℕ)) (name : List ℕ) where
  abbrev distinct : List (List ℕ)
  distinct = first_of_each bytes_eq seen

  distinct-more : first_of_each bytes_eq (seen ++ name ∷ []) ≡ cond (has_text distinct name) distinct (distinct ++ name ∷ [])
  distinct-more = first-push bytes_eq names-chain seen name ∙ ap (λ b. cond b distinct (distinct ++ name ∷ [])) (any-turned name distinct)

  same-told : has_text distinct name ≡ true → first_told seen ≡ first_told (seen ++ name ∷ [])
  same-told there = ap (take similar_limit) (sym (distinct-more ∙ ap (λ b. cond b distinct (distinct ++ name ∷ [])) there))

  last-told : has_text distinct name ≡ false → take similar_limit (distinct ++ name ∷ []) ≡ first_told (seen ++ name ∷ [])
  last-told new = ap (take similar_limit) (sym (distinct-more ∙ ap (λ b. cond b distinct (distinct ++ name ∷ [])) new))

  -- there is no room for it
  pub told-full : (front : List (List ℕ)) → front ≡ first_told seen → similar_limit ≤ length front → front ≡ first_told (seen ++ name ∷ [])
  told-full front is full =
      let size : length (first_told seen) ≡ length front = ap length (sym is) in
      let whole : length distinct ≡ length (first_told seen) + length (drop similar_limit distinct) =
      ap length (sym (take-append-drop similar_limit distinct)) ∙ length-append (take similar_limit distinct) (drop similar_limit distinct) in
      let enough : similar_limit ≤ length distinct = omega arith in
      elim (cases_Bool (has_text distinct name)) [
        | inl there ↦ is ∙ same-told there
        | inr new ↦ is ∙ sym (take-append-le similar_limit distinct (name ∷ []) enough) ∙ last-told new
      ]

  -- it is there
  pub told-known : (front : List (List ℕ)) → front ≡ first_told seen → has_text front name ≡ true → front ≡ first_told (seen ++ name ∷ [])
  told-known front is known =
      let there : has_text distinct name ≡ true =
      ap (λ names. has_text names name) (sym (take-append-drop similar_limit distinct))
      ∙ list_any-append (bytes_eq name) (take similar_limit distinct) (drop similar_limit distinct)
      ∙ ap (λ b. b || has_text (drop similar_limit distinct) name) (ap (λ names. has_text names name) (sym is) ∙ known) in
      is ∙ same-told there

  -- it is new, and there is room for it
  pub told-new : (front : List (List ℕ)) → front ≡ first_told seen → length front < similar_limit → has_text front name ≡ false → front ++ name ∷ [] ≡ first_told (seen ++ name ∷ [])
  told-new front is room new =
      let all : front ≡ distinct = is ∙ take_all similar_limit distinct (few (cases_lt similar_limit (length distinct))) in
      let size : length front ≡ length distinct = ap length all in
      let longer : length (distinct ++ name ∷ []) ≡ length distinct + 1 = length-append distinct (name ∷ []) in
      ap (λ names. names ++ name ∷ []) all
      ∙ sym (take_all similar_limit (distinct ++ name ∷ []) (omega arith))
      ∙ last-told (ap (λ names. has_text names name) (sym all) ∙ new)
    where
      few : (similar_limit < length distinct) ⊎ (length distinct ≤ similar_limit) → length distinct ≤ similar_limit
      few (inl many) =
          let size : length front ≡ similar_limit = ap length is ∙ length-take-le similar_limit distinct (omega arith) in
          absurd (omega arith)
      few (inr small) = small

-- of names that pass a test
module _ (test : List ℕ → Bool) (seen : List (List ℕ)) (name : List ℕ) (front : List (List ℕ)) (is : front ≡ first_told (filter test seen)) where
  pub kept-same : test name ≡ false → front ≡ first_told (filter test (seen ++ name ∷ []))
  kept-same fails = is ∙ ap first_told (sym (filter_fails test seen (seen ++ name ∷ []) name refl fails))

  passing : test name ≡ true → first_told (filter test seen ++ name ∷ []) ≡ first_told (filter test (seen ++ name ∷ []))
  passing passes = ap first_told (sym (filter_passes test seen (seen ++ name ∷ []) name refl passes))

  pub kept-full : similar_limit ≤ length front → front ≡ first_told (filter test (seen ++ name ∷ []))
  kept-full full =
      elim (cases_Bool (test name)) [
        | inl passes ↦ told-full (filter test seen) name front is full ∙ passing passes
        | inr fails ↦ kept-same fails
      ]

  pub kept-known : (test name ≡ true → has_text front name ≡ true) → front ≡ first_told (filter test (seen ++ name ∷ []))
  kept-known known =
      elim (cases_Bool (test name)) [
        | inl passes ↦ told-known (filter test seen) name front is (known passes) ∙ passing passes
        | inr fails ↦ kept-same fails
      ]

  pub kept-new : test name ≡ true → length front < similar_limit → has_text front name ≡ false → front ++ name ∷ [] ≡ first_told (filter test (seen ++ name ∷ []))
  kept-new passes room new = told-new (filter test seen) name front is room new ∙ passing passes

-- the names that are told, with those that aren't to be
pub known-more : (own : List ℕ → Bool) (olds news names : List (List ℕ)) (name one : List ℕ)
    → has_text news one ≡ (bytes_eq one name || has_text olds one) → has_text olds one ≡ (own one || has_text names one) → has_text news one ≡ (own one || has_text (names ++ name ∷ []) one)
known-more own olds news names name one more is =
    more
    ∙ ap (λ b. bytes_eq one name || b) is
    ∙ turned (bytes_eq one name) (own one) (has_text names one)
    ∙ ap (λ b. own one || b) (sym (list_any-append (bytes_eq one) names (name ∷ [])))
  where
    turned : (a b c : Bool) → (a || (b || c)) ≡ (b || (c || (a || false)))
    turned true true c = refl
    turned true false true = refl
    turned true false false = refl
    turned false true c = refl
    turned false false true = refl
    turned false false false = refl

-- one that is there
pub known-again : (texts : List (List ℕ)) (name one : List ℕ) → has_text texts name ≡ true → has_text texts one ≡ (bytes_eq one name || has_text texts one)
known-again texts name one there =
    elim (cases_Bool (bytes_eq one name)) [
      | inl same ↦ ap (has_text texts) (same-name one name same) ∙ there ∙ sym (ap (λ b. b || has_text texts one) same)
      | inr other ↦ sym (ap (λ b. b || has_text texts one) other)
    ]

-- ---- tests

pub or-second : (a b : Bool) → (a || b) ≡ true → not a ≡ true → b ≡ true
or-second true b some none = absurd (false≢true none)
or-second false b some none = some

pub or-turned : (a b : List ℕ) (rest : Bool) → (bytes_eq a b || rest) ≡ (rest || bytes_eq b a)
or-turned a b rest = ap (λ same. same || rest) (names-turned a b) ∙ swap (bytes_eq b a) rest
  where
    swap : (a b : Bool) → (a || b) ≡ (b || a)
    swap true true = refl
    swap true false = refl
    swap false true = refl
    swap false false = refl

-- ---- the lists of names by stem

-- what a map has by the bytes of a key
abbrev pub at_key : {X S : Type 0} → HashMap (Vec ℕ Global) X S → List ℕ → Option X
at_key lists one = get_by (λ key. bytes_eq one key.items) lists

-- once it has a value at one text more
module _ {X S : Type 0} (olds news : HashMap (Vec ℕ Global) X S) (text : List ℕ) (value : X)
    (updates : UpdatesBy (λ a b. bytes_eq a.items b.items) (λ key. bytes_eq text key.items) olds news (Some value)) where
  pub key-at : (one : List ℕ) → bytes_eq one text ≡ true → at_key news one ≡ Some value
  key-at one same = ap (at_key news) (same-name one text same) ∙ updates.1

  pub key-apart : (one : List ℕ) → bytes_eq one text ≡ false → at_key news one ≡ at_key olds one
  unfolding KeepsOthers
  key-apart one other =
      updates.3 (λ key. bytes_eq one key.items) (λ a b same. ap (λ t. bytes_eq t b.items) (same-name one a.items same))
      (λ key same. ap (bytes_eq one) (sym (same-name text key.items same)) ∙ other)

  pub has-more : (one : List ℕ) → is_some (at_key news one) ≡ (bytes_eq one text || is_some (at_key olds one))
  has-more one =
      elim (cases_Bool (bytes_eq one text)) [
        | inl same ↦ ap is_some (key-at one same) ∙ sym (ap (λ b. b || is_some (at_key olds one)) same)
        | inr other ↦ ap is_some (key-apart one other) ∙ sym (ap (λ b. b || is_some (at_key olds one)) other)
      ]

-- which texts are among its keys
pub has-key : {X S : Type 0} (lists : HashMap (Vec ℕ Global) X S) (one : List ℕ) → has_text (map (λ key. key.items) (keys lists)) one ≡ is_some (at_key lists one)
has-key lists one = any-map (bytes_eq one) (λ key. key.items) (keys lists) ∙ sym (is_some-lookup (λ key. bytes_eq one key.items) lists.entries)

other-stem : (one name : List ℕ) → bytes_eq one (stem name) ≡ false → has_stem one name ≡ false
other-stem one name other = ap (λ b. is_stem one && b) other ∙ none (is_stem one)
  where
    none : (b : Bool) → (b && false) ≡ false
    none true = refl
    none false = refl

no-stem : (one name : List ℕ) → is_stem (stem name) ≡ false → has_stem one name ≡ false
no-stem one name none =
    elim (cases_Bool (bytes_eq one (stem name))) [
      | inl same ↦ ap (λ b. b && bytes_eq one (stem name)) (ap is_stem (same-name one (stem name) same) ∙ none)
      | inr other ↦ other-stem one name other
    ]

abbrev Lists : Type 0 → Type 0
Lists S = HashMap (Vec ℕ Global) (Vec (Vec ℕ Global) Global) S

abbrev texts : Vec (Vec ℕ Global) Global → List (List ℕ)
texts names = map (λ name. name.items) names.items

abbrev pub IsListed : List (List ℕ) → List ℕ → Option (Vec (Vec ℕ Global) Global) → Type 0
IsListed seen one found = IfSome found (λ names. texts names ≡ first_with_stem seen one)

abbrev pub AreListed : {S : Type 0} → List (List ℕ) → Lists S → Type 0
AreListed seen lists = (one : List ℕ) → IsListed seen one (at_key lists one)

-- none so far
pub none-listed : {S : Type 0} (lists : Lists S) → All (λ list. list.items ≡ []) (values lists) → AreListed [] lists
unfolding first_of_each
none-listed lists none = λ one.
    IfSome-lookup_from_All (λ names. texts names ≡ first_with_stem [] one) (λ key. bytes_eq one key.items) lists.entries
    (All-weaker (λ list. list.items ≡ []) (λ names. texts names ≡ first_with_stem [] one) (λ names none. ap (map (λ name. name.items)) none) (values lists) none)

-- where no stem is sought
pub none-sought : {S : Type 0} (seen : List (List ℕ)) (lists : Lists S) → lists.entries ≡ [] → AreListed seen lists
none-sought seen lists none = λ one. subst (λ entries. IsListed seen one (lookup (λ key. bytes_eq one key.items) entries)) (sym none) tt

-- one name more, with another stem
listed-same : (seen : List (List ℕ)) (name one : List ℕ) → has_stem one name ≡ false → (found : Option (Vec (Vec ℕ Global) Global)) → IsListed seen one found → IsListed (seen ++ name ∷ []) one found
listed-same seen name one fails None is = tt
listed-same seen name one fails (Some names) is = kept-same (has_stem one) seen name (texts names) is fails

module _ {S : Type 0} (seen : List (List ℕ)) (name : List ℕ) where
  -- with none
  pub listed-none : (lists : Lists S) → AreListed seen lists → is_stem (stem name) ≡ false → AreListed (seen ++ name ∷ []) lists
  listed-none lists are none = λ one. listed-same seen name one (no-stem one name none) (at_key lists one) (are one)

  -- with one that isn't sought
  pub listed-other : (lists : Lists S) → AreListed seen lists → at_key lists (stem name) ≡ None → AreListed (seen ++ name ∷ []) lists
  listed-other lists are none = λ one.
      elim (cases_Bool (bytes_eq one (stem name))) [
        | inl same ↦ subst (IsListed (seen ++ name ∷ []) one) (sym (ap (at_key lists) (same-name one (stem name) same) ∙ none)) tt
        | inr other ↦ listed-same seen name one (other-stem one name other) (at_key lists one) (are one)
      ]

  -- with one that is
  pub listed-more : (olds news : Lists S) (names : Vec (Vec ℕ Global) Global) → AreListed seen olds → is_stem (stem name) ≡ true
      → UpdatesBy (λ a b. bytes_eq a.items b.items) (λ key. bytes_eq (stem name) key.items) olds news (Some names) → texts names ≡ first_told (filter (has_stem (stem name)) seen ++ name ∷ [])
      → AreListed (seen ++ name ∷ []) news
  listed-more olds news names are some updates more = λ one.
      elim (cases_Bool (bytes_eq one (stem name))) [
        | inl same ↦ subst (IsListed (seen ++ name ∷ []) one) (sym (key-at olds news (stem name) names updates one same))
            (mine ∙ ap (first_with_stem (seen ++ name ∷ [])) (sym (same-name one (stem name) same)))
        | inr other ↦ subst (IsListed (seen ++ name ∷ []) one) (sym (key-apart olds news (stem name) names updates one other))
            (listed-same seen name one (other-stem one name other) (at_key olds one) (are one))
      ]
    where
      passes : has_stem (stem name) name ≡ true
      passes = ap (λ b. b && bytes_eq (stem name) (stem name)) some ∙ name-itself (stem name)

      mine : texts names ≡ first_with_stem (seen ++ name ∷ []) (stem name)
      mine = more ∙ ap first_told (sym (filter_passes (has_stem (stem name)) seen (seen ++ name ∷ []) name refl passes))

-- ---- the names of one element more
pub names-more : {A C : Type 0} (f : C → List (List ℕ)) (view : A → C) (xs : List A) (i : ℕ) (d : A) (x : C) → i < length xs → x ≡ view (get_or xs i d)
    → flat_map f (map view (take (i + 1) xs)) ≡ flat_map f (map view (take i xs)) ++ f x
names-more f view xs i d x inside is =
    ap (λ front. flat_map f (map view front)) (take_more xs i d inside)
    ∙ ap (flat_map f) (map-append view (take i xs) (get_or xs i d ∷ []))
    ∙ flat_map-append f (map view (take i xs)) (view (get_or xs i d) ∷ [])
    ∙ ap (λ last. flat_map f (map view (take i xs)) ++ last) (append-nil (f (view (get_or xs i d))) ∙ ap f (sym is))

-- those that a package provides
abbrev pub provided : List ℕ → List Atom → List (List ℕ)
provided arch entries = map (λ (atom : AtomText). atom.name) (filter (λ (atom : AtomText). is_usable arch atom.qualifier) (map atom_view entries))

module _ (arch : List ℕ) (entries : List Atom) (i : ℕ) (entry : Atom) (inside : i < length entries) (is : entry ≡ get_or entries i entry) where
  abbrev usable : AtomText → Bool
  usable atom = is_usable arch atom.qualifier

  next-entry : map atom_view (take (i + 1) entries) ≡ map atom_view (take i entries) ++ atom_view entry ∷ []
  next-entry = map_more atom_view entries i entry inside ∙ ap (λ atom. map atom_view (take i entries) ++ atom_view atom ∷ []) (sym is)

  pub provided-more : usable (atom_view entry) ≡ true → provided arch (take (i + 1) entries) ≡ provided arch (take i entries) ++ (atom_view entry).name ∷ []
  provided-more passes =
      ap (map (λ (atom : AtomText). atom.name)) (filter_passes usable (map atom_view (take i entries)) (map atom_view (take (i + 1) entries)) (atom_view entry) next-entry passes)
      ∙ map-append (λ (atom : AtomText). atom.name) (filter usable (map atom_view (take i entries))) (atom_view entry ∷ [])

  pub provided-same : usable (atom_view entry) ≡ false → provided arch (take (i + 1) entries) ≡ provided arch (take i entries)
  provided-same fails =
      ap (map (λ (atom : AtomText). atom.name)) (filter_fails usable (map atom_view (take i entries)) (map atom_view (take (i + 1) entries)) (atom_view entry) next-entry fails)

-- ---- stems that are sought

pub all-grow : {A : Type 0} (P Q : A → Type 0) → ((x : A) → P x → Q x) → (xs : List A) → All P xs → All Q xs
all-grow P Q grow [] all = All-nil Q
all-grow P Q grow (x ∷ xs) all = All-cons Q x xs (grow x (All-head P x xs all)) (all-grow P Q grow xs (All-tail P x xs all))

module _ (olds news : List (List ℕ)) (name : List ℕ) (more : (one : List ℕ) → has_text news one ≡ (bytes_eq one name || has_text olds one)) where
  pub more-keep : (one : List ℕ) → has_text olds one ≡ true → has_text news one ≡ true
  more-keep one there = more one ∙ ap (λ b. bytes_eq one name || b) there ∙ last (bytes_eq one name)
    where
      last : (b : Bool) → (b || true) ≡ true
      last true = refl
      last false = refl

  pub more-has : (one : List ℕ) → one ≡ name → has_text news one ≡ true
  more-has one is = more one ∙ ap (λ b. b || has_text olds one) (ap (λ text. bytes_eq text name) is ∙ name-itself name)

pub sought-more : {A : Type 0} (view : A → AtomText) (olds news : List (List ℕ)) (xs : List A) (i : ℕ) (x : A) → i < length xs → x ≡ get_or xs i x
    → All (λ atom. has_text olds (stem atom.name) ≡ true) (map view (take i xs)) → ((one : List ℕ) → has_text olds one ≡ true → has_text news one ≡ true) → has_text news (stem (view x).name) ≡ true
    → All (λ atom. has_text news (stem atom.name) ≡ true) (map view (take (i + 1) xs))
sought-more {A} view olds news xs i x inside is so_far keep mine =
    let before : AtomText → Type 0 = λ atom. has_text olds (stem atom.name) ≡ true in
    let sought : AtomText → Type 0 = λ atom. has_text news (stem atom.name) ≡ true in
    let here : A → Type 0 = λ y. sought (view y) in
    All-map sought view (take (i + 1) xs)
    (All-more here xs i x inside (all_seen sought view (take i xs) (all-grow before sought (λ atom. keep (stem atom.name)) (map view (take i xs)) so_far)) (subst here is mine))
