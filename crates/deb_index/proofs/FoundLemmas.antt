-- The places that are found for an atom or a group: which they are, and that in their order they are those that meet it.
use Rattle.std.proofs.Common.{◌≡◌, ℕ, ◌+◌, ◌<◌, ◌≤◌, Bool, true, false, ◌&&◌, ◌||◌, eqb, List, [], ◌∷◌, ◌++◌, map, filter, take, drop, get_or, length, slice_get, sym, ◌∙◌, ap, arith}
use Rattle.std.specs.Prelude.{nat_le}
use Rattle.std.specs.List.{list_any}
use Rattle.std.specs.List.Sorted.{IsStrictlyIncreasing}
use Rattle.std.specs.Option.{option_map_or}
use Rattle.std.proofs.lemmas.Bool.{eqb-true, false≢true, leb-false, or_left, true≢false}
use Rattle.std.proofs.lemmas.List.{map-append, take-append-drop, take-map, take_more}
use Rattle.std.proofs.lemmas.List.Folds.{list_any-append}
use Rattle.std.proofs.lemmas.List.Kept.{IsStrictlyIncreasing-filter}
use Rattle.std.proofs.lemmas.List.Sums.{count_by-le-length, length-filter}
use Rattle.std.proofs.lemmas.Map.Views.{any-filter_same}
use Rattle.number_sets.proofs.RisingLists.{rising_once}
use Rattle.deb_relation.specs.declared.atom.Atom.{Atom}
use Rattle.deb_relation.specs.Relationship.{atom_view, AtomText}
use Rattle.deb_index.specs.declared.meets.Role.{Role}
use Rattle.deb_index.specs.Packages.{IndexView, is_in, places_where}
use Rattle.deb_index.specs.Rows.{Adds, IsFound, meets_as, meets_as_at}
use Rattle.deb_index.proofs.HoldsLemmas.{group-at}
use Rattle.deb_index.proofs.MemberLemmas.{member-places_where, rising-places_where}

-- what is asked of a place is asked of itself
pub asked-itself : (t : ℕ → Bool) (p q : ℕ) → (eqb p q && t p) ≡ (eqb p q && t q)
asked-itself t p q = grind arith

-- ---- some places are asked one after the other

join : (a b c m : Bool) → ((a || (b && m)) || (c && m)) ≡ (a || ((b || c) && m))
join a b c m = grind arith

pub or-none : (b : Bool) → (b || false) ≡ b
or-none b = grind arith

-- those at the front of a list, and the next
pub in-more : (places : List ℕ) (i p q : ℕ) → i < length places → p ≡ get_or places i 0 → is_in (take (i + 1) places) q ≡ (is_in (take i places) q || eqb p q)
in-more places i p q within at =
    ap (λ ps. is_in ps q) (take_more places i 0 within ∙ ap (λ x. take i places ++ x ∷ []) (sym at))
    ∙ list_any-append (λ place. eqb place q) (take i places) (p ∷ []) ∙ ap (λ b. is_in (take i places) q || b) (or-none (eqb p q))

pub asked-more : (before found : Bool) (t : ℕ → Bool) (places : List ℕ) (i p q : ℕ) (wanted : Bool) → i < length places → p ≡ get_or places i 0 → wanted ≡ t p
    → found ≡ (before || (is_in (take i places) q && t q)) → (found || (eqb p q && wanted)) ≡ (before || (is_in (take (i + 1) places) q && t q))
asked-more before found t places i p q wanted within at is old =
    (λ k. old k || (eqb p q && is k)) ∙ ap (λ b. (before || (is_in (take i places) q && t q)) || b) (asked-itself t p q)
    ∙ join before (is_in (take i places) q) (eqb p q) (t q) ∙ ap (λ b. before || (b && t q)) (sym (in-more places i p q within at))

-- what the first of a list pass, all do
pub any-taken : {A : Type 0} (t : A → Bool) (i : ℕ) (xs : List A) → list_any t (take i xs) ≡ true → list_any t xs ≡ true
any-taken t i xs there =
    ap (list_any t) (sym (take-append-drop i xs)) ∙ list_any-append t (take i xs) (drop i xs) ∙ or_left (list_any t (take i xs)) (list_any t (drop i xs)) there

pub or-more : (before some all : Bool) → (some ≡ true → all ≡ true) → (before || some) ≡ true → (before || all) ≡ true
or-more before some all more there = grind (arith, more, there)

pub asked-taken : (before : Bool) (t : ℕ → Bool) (places : List ℕ) (i q : ℕ) → (before || (is_in (take i places) q && t q)) ≡ true → (before || (is_in places q && t q)) ≡ true
asked-taken before t places i q there = grind (arith, any-taken (λ place. eqb place q) i places, there)

-- ---- in their order they are the places that pass

module _ {A : Type 0} (test : A → Bool) (xs : List A) (found : List ℕ) (rising : IsStrictlyIncreasing found) where
  abbrev places : List ℕ
  places = places_where test xs

  pub in-order : ((q : ℕ) → is_in found q ≡ option_map_or test (slice_get xs q) false) → found ≡ places
  in-order same = rising_once found places rising (rising-places_where test xs) (λ q. same q ∙ sym (member-places_where test xs q))

  abbrev kept : List ℕ
  kept = filter (is_in found) places

  kept-same : (q : ℕ) → (is_in found q ≡ true → is_in places q ≡ true) → is_in found q ≡ is_in kept q
  kept-same q there = grind (arith, there, any-filter_same (λ place. eqb place q) (is_in found) (is_in found q) (λ place at. ap (is_in found) (eqb-true place q at)) places)

  -- some of them are no more than all
  pub among-few : ((q : ℕ) → is_in found q ≡ true → option_map_or test (slice_get xs q) false ≡ true) → length found ≤ length places
  among-few among =
      let same : found ≡ kept = rising_once found kept rising (IsStrictlyIncreasing-filter (is_in found) places (rising-places_where test xs))
      (λ q. kept-same q (λ there. member-places_where test xs q ∙ among q there)) in
      omega (arith, ap length same, length-filter (is_in found) places, count_by-le-length (is_in found) places)

-- those of one atom more
pub atom-more : (t : AtomText → Bool) (atoms : List Atom) (i : ℕ) (a : Atom) → i < length atoms → a ≡ get_or atoms i a
    → list_any t (map atom_view (take (i + 1) atoms)) ≡ (list_any t (map atom_view (take i atoms)) || t (atom_view a))
atom-more t atoms i a within at =
    ap (list_any t) (ap (map atom_view) (take_more atoms i a within ∙ ap (λ x. take i atoms ++ x ∷ []) (sym at)) ∙ map-append atom_view (take i atoms) (a ∷ []))
    ∙ list_any-append t (map atom_view (take i atoms)) (atom_view a ∷ []) ∙ ap (λ b. list_any t (map atom_view (take i atoms)) || b) (or-none (t (atom_view a)))

pub atoms-taken : (t : AtomText → Bool) (atoms : List Atom) (i : ℕ) → list_any t (map atom_view (take i atoms)) ≡ true → list_any t (map atom_view atoms) ≡ true
atoms-taken t atoms i there = any-taken t i (map atom_view atoms) (ap (list_any t) (take-map atom_view i atoms) ∙ there)

-- what meets one of some atoms, asked of a place
pub asked-at : (role : Role) (index : IndexView) (asked : List AtomText) (q : ℕ)
    → list_any (meets_as_at role index q) asked ≡ option_map_or (λ p. list_any (meets_as role index.arch p) asked) (slice_get index.packages q) false
asked-at role index asked q = sym (group-at (meets_as role index.arch) asked (slice_get index.packages q))

-- ---- what came, up to a limit

-- all that was asked for
pub added-all : (most : ℕ) (set : ℕ → Bool) (before after : List ℕ) → ((q : ℕ) → is_in after q ≡ (is_in before q || set q)) → Adds most set before after true
added-all most set before after same = record { all = λ _. same; among = λ q there. sym (same q) ∙ there; rising = λ e. absurd (true≢false e); more = λ e. absurd (true≢false e) }

-- all, unless they are seen to be too many
pub added-counted : (most : ℕ) (set : ℕ → Bool) (before after : List ℕ) → ((q : ℕ) → is_in after q ≡ (is_in before q || set q)) → IsStrictlyIncreasing after → Adds most set before after (nat_le (length after) most)
added-counted most set before after same rising = record { all = λ _. same; among = λ q there. sym (same q) ∙ there; rising = λ _. rising; more = leb-false (length after) most }

module _ (most : ℕ) (set more : ℕ → Bool) (before between after : List ℕ) (are_all : Bool) (added : Adds most more between after are_all) where
  -- what is the same with what had come before
  pub added-same : ((q : ℕ) → (is_in between q || more q) ≡ (is_in before q || set q)) → Adds most set before after are_all
  added-same same = record { all = λ e q. added.all e q ∙ same q; among = λ q there. sym (same q) ∙ added.among q there; rising = added.rising; more = added.more }

  -- where no more is looked for
  pub added-some : are_all ≡ false → ((q : ℕ) → (is_in between q || more q) ≡ true → (is_in before q || set q) ≡ true) → Adds most set before after false
  added-some e within = record { all = λ t. absurd (false≢true t); among = λ q there. within q (added.among q there); rising = λ _. added.rising e; more = λ _. added.more e }

-- ---- what is found

module _ (most : ℕ) (places found : List ℕ) where
  pub found-all : found ≡ places → IsFound most places found
  found-all same = record { all = λ _. same; more = λ many. omega (arith, many, ap length same) }

  pub found-some : most < length found → length found ≤ length places → IsFound most places found
  found-some many few = record { all = λ short. absurd (omega (arith, short, many)); more = λ _. omega (arith, many, few) }
