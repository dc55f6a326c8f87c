-- Lists of places to which places come.
use Rattle.std.proofs.Common.{◌≡◌, ◌⊎◌, ℕ, ◌<◌, ◌≤◌, Bool, true, false, ◌||◌, eqb, List, [], ◌∷◌, ◌++◌, length, get_or, refl, sym, subst, ◌∙◌, ap, inl, inr, arith, append_assoc, if◌then◌else◌}
use Rattle.std.specs.List.{list_any, IsDistinct}
use Rattle.std.specs.Cmp.{nat_eq_equiv}
use Rattle.std.proofs.lemmas.Bool.{cases_Bool, false≢true, or_cases, or_left, or_right, eqb-true, eq-eqb}
use Rattle.std.proofs.lemmas.List.{append-nil, get_or_append_left, length-append}
use Rattle.std.proofs.lemmas.List.Elements.{All-nil, All-cons, All-append}
use Rattle.std.proofs.lemmas.List.Folds.{list_any-append}
use Rattle.std.proofs.lemmas.Map.Keys.{IsDistinct-push}
use Rattle.std.proofs.lemmas.Map.Steps.{length-le_from_distinct_below}
use Rattle.number_sets.specs.Sets.{members_of, with_number, AreNumbers, Grows}
use Rattle.number_sets.proofs.MembersLemmas.{members_of_push}
use Rattle.number_sets.proofs.ListMembers.{members_of_at}

-- ---- one place more

with_old : (places : List ℕ) (q : ℕ) → members_of places q ≡ true → with_number places q ≡ places
with_old places q has = ap (λ (b : Bool). if b then places else (places ++ q ∷ [])) has

with_new : (places : List ℕ) (q : ℕ) → members_of places q ≡ false → with_number places q ≡ places ++ q ∷ []
with_new places q lacks = ap (λ (b : Bool). if b then places else (places ++ q ∷ [])) lacks

pub with_number_has : (places : List ℕ) (q : ℕ) → members_of (with_number places q) q ≡ true
with_number_has places q =
    elim (cases_Bool (members_of places q)) [
      | inl has ↦ ap (λ list. members_of list q) (with_old places q has) ∙ has
      | inr lacks ↦
          ap (λ list. members_of list q) (with_new places q lacks)
          ∙ (members_of_push places q q ∙ or_right (members_of places q) (eqb q q || false) (or_left (eqb q q) false (eq-eqb q q refl)))
    ]

-- what is there then was there, or is that place
pub with_number_only : (places : List ℕ) (q number : ℕ) → members_of (with_number places q) number ≡ true → (members_of places number ≡ true) ⊎ (q ≡ number)
with_number_only places q number is_in =
    elim (cases_Bool (members_of places q)) [
      | inl has ↦ inl (sym (ap (λ list. members_of list number) (with_old places q has)) ∙ is_in)
      | inr lacks ↦
          elim (or_cases (members_of places number) (eqb q number || false) (sym (ap (λ list. members_of list number) (with_new places q lacks) ∙ members_of_push places q number) ∙ is_in)) [
            | inl old ↦ inl old
            | inr added ↦ elim (or_cases (eqb q number) false added) [
              | inl here ↦ inr (eqb-true q number here)
              | inr never ↦ absurd (false≢true never)
            ]
          ]
    ]

turned : (places : List ℕ) (q : ℕ) → list_any (eqb q) places ≡ members_of places q
turned [] q = refl
turned (place ∷ places) q = ap (λ b. b || list_any (eqb q) places) (nat_eq_equiv.symm q place) ∙ ap (λ b. eqb place q || b) (turned places q)

-- ---- lists that grow

pub grows_none : (count : ℕ) (places : List ℕ) → Grows count places places
grows_none count places = record { more = []; appended = sym (append-nil places); places = λ are. are }

pub grows_both : (count : ℕ) (before between after : List ℕ) → Grows count before between → Grows count between after → Grows count before after
grows_both count before between after first second = record {
  more = first.more ++ second.more;
  appended = second.appended ∙ (ap (λ list. list ++ second.more) first.appended ∙ append_assoc before first.more second.more);
  places = λ are. second.places (first.places are);
}

grows_new : (count : ℕ) (places : List ℕ) (q : ℕ) → q < count → members_of places q ≡ false → Grows count places (places ++ q ∷ [])
grows_new count places q is_place lacks = record {
  more = q ∷ [];
  appended = refl;
  places = λ are. record {
    within = All-append (λ place. place < count) places (q ∷ []) are.within (All-cons (λ place. place < count) q [] is_place (All-nil (λ place. place < count)));
    once = IsDistinct-push nat_eq_equiv places q are.once (turned places q ∙ lacks);
  };
}

pub grows_with : (count : ℕ) (places : List ℕ) (q : ℕ) → q < count → Grows count places (with_number places q)
grows_with count places q is_place =
    let To : List ℕ → Type 0 = λ list. Grows count places list in
    elim (cases_Bool (members_of places q)) [
      | inl has ↦ subst To (sym (with_old places q has)) (grows_none count places)
      | inr lacks ↦ subst To (sym (with_new places q lacks)) (grows_new count places q is_place lacks)
    ]

pub grows_keeps : (count : ℕ) (before after : List ℕ) → Grows count before after → ((q : ℕ) → members_of before q ≡ true → members_of after q ≡ true)
grows_keeps count before after grows q is_in =
    ap (λ list. members_of list q) grows.appended
    ∙ (list_any-append (λ member. eqb member q) before grows.more ∙ or_left (members_of before q) (members_of grows.more q) is_in)

pub grows_at : (count : ℕ) (before after : List ℕ) (k : ℕ) → Grows count before after → k < length before → get_or after k 0 ≡ get_or before k 0
grows_at count before after k grows inside =
    ap (λ list. get_or list k 0) grows.appended ∙ get_or_append_left before grows.more 0 k inside

pub grows_longer : (count : ℕ) (before after : List ℕ) → Grows count before after → length before ≤ length after
grows_longer count before after grows = omega (arith, ap length grows.appended, length-append before grows.more)

pub numbers_empty : (count : ℕ) → AreNumbers count []
unfolding IsDistinct
numbers_empty count = record { within = All-nil (λ place. place < count); once = tt }

-- ---- a place of the list

module _ (count : ℕ) (places : List ℕ) (k q : ℕ) (inside : k < length places) (there : get_or places k 0 ≡ q) where
  -- there are no more numbers of places than places
  pub number_within : AreNumbers count places → k < count
  number_within are =
      let few : length places ≤ count = length-le_from_distinct_below places count are.once (λ r is_in.
      let at = members_of_at places r (sym (turned places r) ∙ is_in) in
      let below : get_or places at.0 0 < count = are.within at.0 0 at.1 in
      omega (arith, at.2)) in
      omega arith

-- ---- at first one place

pub numbers_first : (count p : ℕ) (places : List ℕ) → p < count → places ≡ with_number [] p → AreNumbers count places
numbers_first count p places is_place is_that =
    let Are : List ℕ → Type 0 = λ list. AreNumbers count list in
    subst Are (sym is_that) ((grows_with count [] p is_place).places (numbers_empty count))

pub single_row : (row : List ℕ) → length row ≡ 1 → row ≡ get_or row 0 0 ∷ []
single_row [] one = absurd (omega arith)
single_row (place ∷ []) one = refl
single_row (place ∷ other ∷ rest) one = absurd (omega arith)
