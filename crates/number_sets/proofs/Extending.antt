-- Places of a row that come to a list, one after another.
use Rattle.std.proofs.Common.{◌≡◌, ◌⊎◌, ℕ, ◌+◌, ◌<◌, ◌≤◌, true, ◌||◌, false, eqb, List, [], ◌∷◌, ◌++◌, length, get_or, take, All, sym, subst, ◌∙◌, ap, inl, inr, arith}
use Rattle.std.proofs.lemmas.Bool.{false≢true, or_cases, eqb-true}
use Rattle.std.proofs.lemmas.List.{take_more}
use Rattle.number_sets.specs.Sets.{members_of, with_number, Grows}
use Rattle.number_sets.proofs.MembersLemmas.{members_of_push}
use Rattle.number_sets.proofs.ListMembers.{at_members_of, take_whole}
use Rattle.number_sets.proofs.Placing.{grows_both, grows_with, grows_keeps, with_number_has, with_number_only}

pub grows_row : (row before between after : List ℕ) (i q : ℕ) → i < length row → get_or row i 0 ≡ q → after ≡ with_number between q
    → ((count : ℕ) → All (λ place. place < count) row → Grows count before between)
    → (count : ℕ) → All (λ place. place < count) row → Grows count before after
grows_row row before between after i q inside here placed so_far count all =
    let To : List ℕ → Type 0 = λ list. Grows count between list in
    grows_both count before between after (so_far count all) (subst To (sym placed) (grows_with count between q (omega (arith, all i 0 inside))))

pub all_of_row : (row between after : List ℕ) (i q : ℕ) → i < length row → get_or row i 0 ≡ q → after ≡ with_number between q
    → ((q : ℕ) → members_of (take i row) q ≡ true → members_of between q ≡ true) → ((q : ℕ) → members_of (take (i + 1) row) q ≡ true → members_of after q ≡ true)
all_of_row row between after i q inside here placed so_far r is_in =
    let joined : members_of (take i row ++ get_or row i 0 ∷ []) r ≡ true = sym (ap (λ list. members_of list r) (take_more row i 0 inside)) ∙ is_in in
    elim (or_cases (members_of (take i row) r) (eqb (get_or row i 0) r || false) (sym (members_of_push (take i row) (get_or row i 0) r) ∙ joined)) [
      | inl old ↦ ap (λ list. members_of list r) placed ∙ grows_keeps (q + 1) between (with_number between q) (grows_with (q + 1) between q (omega arith)) r (so_far r old)
      | inr added ↦ elim (or_cases (eqb (get_or row i 0) r) false added) [
        | inl last ↦
            let same : q ≡ r = sym here ∙ eqb-true (get_or row i 0) r last in
            ap (λ list. members_of list r) placed ∙ (ap (members_of (with_number between q)) (sym same) ∙ with_number_has between q)
        | inr never ↦ absurd (false≢true never)
      ]
    ]

-- what is there was there, or is of the row
pub only_row : (row before between after : List ℕ) (i q : ℕ) → i < length row → get_or row i 0 ≡ q → after ≡ with_number between q
    → ((r : ℕ) → members_of between r ≡ true → (members_of before r ≡ true) ⊎ (members_of row r ≡ true))
    → (r : ℕ) → members_of after r ≡ true → (members_of before r ≡ true) ⊎ (members_of row r ≡ true)
only_row row before between after i q inside here placed so_far r is_in =
    elim (with_number_only between q r (sym (ap (λ list. members_of list r) placed) ∙ is_in)) [
      | inl old ↦ so_far r old
      | inr last ↦
          let same : get_or row i 0 ≡ r = here ∙ last in
          inr (ap (members_of row) (sym same) ∙ at_members_of row i inside)
    ]

pub whole_row : (row after : List ℕ) (i : ℕ) → length row ≤ i → ((q : ℕ) → members_of (take i row) q ≡ true → members_of after q ≡ true) → ((q : ℕ) → members_of row q ≡ true → members_of after q ≡ true)
whole_row row after i past all q is_in = all q (ap (λ list. members_of list q) (take_whole row i past) ∙ is_in)
