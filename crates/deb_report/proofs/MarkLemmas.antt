-- Marks on the names of an index.
use Rattle.std.proofs.Common.{◌≡◌, ℕ, ◌+◌, ◌<◌, Bool, true, false, not, ◌&&◌, ◌||◌, List, [], ◌∷◌, All, Option, Some, None, length, get_or, set, take, map, refl, sym, ap, ap₂, ◌∙◌, inl, inr, arith}
use Rattle.std.specs.Prelude.{position}
use Rattle.std.specs.List.{AllPairs, filter, list_any}
use Rattle.std.specs.Option.{option_map_or}
use Rattle.std.specs.Str.{bytes_eq}
use Rattle.std.proofs.lemmas.Bool.{both_ways, cases_eq, cases_order, false_from_ne_true, not-true, or_from, or_right}
use Rattle.std.proofs.lemmas.List.{get_or-set_other, get_or-set_same, length-set, take_more}
use Rattle.std.proofs.lemmas.List.Elements.{All-head, All-tail, All-weaker, filter_passes}
use Rattle.std.proofs.lemmas.List.Folds.{list_any-append, list_any_at}
use Rattle.std.proofs.lemmas.List.Kept.{AllPairs-cons, AllPairs-filter}
use Rattle.deb_index.specs.Packages.{IndexView, PackageView, first_of_each, is_named, name_at, names, no_package, package_at}
use Rattle.deb_index.proofs.FirstLemmas.{name-itself, names-turned}
use Rattle.deb_index.proofs.NameLemmas.{named-some, number-position, text-at}
use Rattle.deb_index.proofs.TableLemmas.{none-any, number-within}
use Rattle.deb_report.specs.Since.{AreMarks, has_named, mark_of}

or-false : (a : Bool) → (a || false) ≡ a
or-false true = refl
or-false false = refl

-- ---- each name has one number

abbrev IsOther : List ℕ → List ℕ → Type 0
IsOther a b = bytes_eq a b ≡ false

distinct : (xs : List (List ℕ)) → AllPairs IsOther (first_of_each bytes_eq xs)
unfolding first_of_each
distinct [] = λ i j d less inside. absurd (omega arith)
distinct (x ∷ xs) =
    AllPairs-cons IsOther x (filter (λ y. not (bytes_eq x y)) (first_of_each bytes_eq xs))
    (All-weaker (λ y. not (bytes_eq x y) ≡ true) (IsOther x) (λ y holds. not-true (bytes_eq x y) holds) (filter (λ y. not (bytes_eq x y)) (first_of_each bytes_eq xs))
    (filter_passes (λ y. not (bytes_eq x y)) (first_of_each bytes_eq xs)))
    (AllPairs-filter IsOther (λ y. not (bytes_eq x y)) (first_of_each bytes_eq xs) (distinct xs))

module _ (index : IndexView) where
  not-before : (m n : ℕ) → m < n → n < length (names index) → bytes_eq (name_at index m) (name_at index n) ≡ false
  not-before m n less inside = distinct (map (λ (p : PackageView). p.name) index.packages) m n [] less inside

  other-number : (m n : ℕ) → m < length (names index) → n < length (names index) → (n ≡ m → ⊥) → bytes_eq (name_at index m) (name_at index n) ≡ false
  other-number m n within inside apart =
      elim (cases_order m n) [
        | inl same ↦ absurd (apart (sym same))
        | inr either ↦ elim either [
          | inl less ↦ not-before m n less inside
          | inr more ↦ names-turned (name_at index m) (name_at index n) ∙ not-before n m more within
        ]
      ]

  -- ---- one name more

  abbrev Adds : (List ℕ → Bool) → List ℕ → (List ℕ → Bool) → Type 0
  Adds test name more = (other : List ℕ) → more other ≡ (test other || bytes_eq name other)

  -- its number is marked
  pub mark-set : (test more : List ℕ → Bool) (name : List ℕ) (marks : List Bool) (m : ℕ) → AreMarks index test marks → Adds test name more
      → m < length (names index) → name_at index m ≡ name → AreMarks index more (set marks m true)
  mark-set test more name marks m are adds within is =
      let size : length (set marks m true) ≡ length (names index) = length-set marks m true ∙ are.0 in
      (size, λ n inside. at n inside ∙ sym (adds (name_at index n)))
    where
      at : (n : ℕ) → n < length (names index) → get_or (set marks m true) n false ≡ (test (name_at index n) || bytes_eq name (name_at index n))
      at n inside =
          elim (cases_eq n m) [
            | inl same ↦
                let marked : m < length marks = omega (arith, are.0) in
                let itself : bytes_eq name (name_at index n) ≡ true = ap (λ k. bytes_eq name (name_at index k)) same ∙ ap (bytes_eq name) is ∙ name-itself name in
                ap (λ k. get_or (set marks m true) k false) same ∙ get_or-set_same marks m true false marked ∙ sym (or_right (test (name_at index n)) (bytes_eq name (name_at index n)) itself)
            | inr apart ↦
                let other : bytes_eq name (name_at index n) ≡ false = ap (λ text. bytes_eq text (name_at index n)) (sym is) ∙ other-number m n within inside apart in
                get_or-set_other marks m n true false apart ∙ are.1 n inside ∙ sym (or-false (test (name_at index n)))
                ∙ ap (λ last. test (name_at index n) || last) (sym other)
          ]

  -- the index doesn't have it
  pub mark-none : (test more : List ℕ → Bool) (name : List ℕ) (marks : List Bool) → AreMarks index test marks → Adds test name more
      → position (bytes_eq name) (names index) ≡ None → AreMarks index more marks
  mark-none test more name marks are adds none = (
    are.0,
    λ n inside. are.1 n inside ∙ sym (or-false (test (name_at index n)))
        ∙ ap (λ last. test (name_at index n) || last) (sym (nowhere (names index) none n inside)) ∙ sym (adds (name_at index n)),
  )
    where
      nowhere : (ks : List (List ℕ)) → position (bytes_eq name) ks ≡ None → (n : ℕ) → n < length ks → bytes_eq name (get_or ks n []) ≡ false
      nowhere ks none n inside =
          false_from_ne_true (bytes_eq name (get_or ks n []))
          (λ here. both_ways (list_any (bytes_eq name) ks) (none-any name ks (number-position name ks ∙ none)) (list_any_at (bytes_eq name) ks n [] inside here))

  -- ---- what the mark of a name tells

  pub number-named : (name : List ℕ) (n : ℕ) → position (bytes_eq name) (names index) ≡ Some n → (n < length (names index)) × (name_at index n ≡ name)
  number-named name n at =
      let found = number-position name (names index) ∙ at in
      (number-within name (names index) n found, text-at name (names index) n found)

  pub mark-tells : (test : List ℕ → Bool) (marks : List Bool) (name : List ℕ) → AreMarks index test marks → (position (bytes_eq name) (names index) ≡ None → test name ≡ false)
      → mark_of index marks name ≡ test name
  mark-tells test marks name are unknown = by (position (bytes_eq name) (names index)) refl
    where
      by : (found : Option ℕ) → position (bytes_eq name) (names index) ≡ found → mark_of index marks name ≡ test name
      by None none = ap (λ found. option_map_or (λ n. get_or marks n false) found false) none ∙ sym (unknown none)
      by (Some n) at =
          let named = number-named name n at in
          ap (λ found. option_map_or (λ k. get_or marks k false) found false) at ∙ are.1 n named.0 ∙ ap test named.1

  -- a name that the index doesn't have, no place has
  pub named-nowhere : (name : List ℕ) (places : List ℕ) → All (λ place. place < length index.packages) places → position (bytes_eq name) (names index) ≡ None → has_named index places name ≡ false
  named-nowhere name [] within none = refl
  named-nowhere name (p ∷ ps) within none =
      or_from (is_named name (package_at index p)) (has_named index ps name)
      (false_from_ne_true (is_named name (package_at index p)) (λ here. both_ways (list_any (is_named name) index.packages) missing
      (list_any_at (is_named name) index.packages p no_package (All-head (λ place. place < length index.packages) p ps within) here)))
      (named-nowhere name ps (All-tail (λ place. place < length index.packages) p ps within) none)
    where
      missing : list_any (is_named name) index.packages ≡ false
      missing = sym (named-some index.packages name None (sym none))

  -- one place more
  pub named-more : (places : List ℕ) (i p : ℕ) (name : List ℕ) → i < length places → get_or places i 0 ≡ p → name ≡ (package_at index p).name
      → Adds (has_named index (take i places)) name (has_named index (take (i + 1) places))
  named-more places i p name inside is named other =
      let test : ℕ → Bool = λ place. is_named other (package_at index place) in
      ap (list_any test) (take_more places i 0 inside)
      ∙ list_any-append test (take i places) (get_or places i 0 ∷ [])
      ∙ ap (λ last. has_named index (take i places) other || last)
      (or-false (test (get_or places i 0)) ∙ ap test is ∙ names-turned other (package_at index p).name ∙ ap (λ text. bytes_eq text other) (sym named))

  -- the marks of asked names and of broken ones tell what is mended
  pub mended-tells : (asked broken : List ℕ) (marks others : List Bool) (name : List ℕ) → AreMarks index (has_named index asked) marks → AreMarks index (has_named index broken) others
      → All (λ place. place < length index.packages) asked → All (λ place. place < length index.packages) broken
      → (mark_of index marks name && not (mark_of index others name)) ≡ (has_named index asked name && not (has_named index broken name))
  mended-tells asked broken marks others name of_asked of_broken within inside =
      ap₂ (λ a b. a && not b)
      (mark-tells (has_named index asked) marks name of_asked (λ none. named-nowhere name asked within none))
      (mark-tells (has_named index broken) others name of_broken (λ none. named-nowhere name broken inside none))
