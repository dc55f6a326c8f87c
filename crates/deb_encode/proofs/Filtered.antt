-- The numbers of a list that pass a test, listed one after another.
use Rattle.std.proofs.Common.{◌≡◌, ℕ, ◌+◌, ◌<◌, ◌≤◌, Bool, true, false, ◌||◌, ◌&&◌, eqb, List, [], ◌∷◌, ◌++◌, length, get_or, take, refl, sym, ◌∙◌, ap}
use Rattle.std.proofs.lemmas.Bool.{false≢true, eqb-true}
use Rattle.std.proofs.lemmas.List.{take_more}
use Rattle.std.proofs.lemmas.List.Folds.{list_any-append}
use Rattle.number_sets.specs.Sets.{NumberSet, members_of}
use Rattle.number_sets.proofs.ListMembers.{take_whole}

-- what is said of a number by the front of the list, and whether it is the next one there
one_passes : (front next passes : Bool) → (next ≡ true → passes ≡ true) → ((front && passes) || (next || false)) ≡ ((front || (next || false)) && passes)
one_passes true true true holds = refl
one_passes true true false holds = absurd (false≢true (holds refl))
one_passes true false true holds = refl
one_passes true false false holds = refl
one_passes false true passes holds = sym (holds refl)
one_passes false false passes holds = refl

one_fails : (front next passes : Bool) → (next ≡ true → passes ≡ false) → (front && passes) ≡ ((front || (next || false)) && passes)
one_fails true next passes fails = refl
one_fails false true passes fails = sym (fails refl)
one_fails false false passes fails = refl

module _ (test : NumberSet) (numbers : List ℕ) where
  -- those among the first `i` numbers that pass are in the list
  abbrev pub ListsPassing : ℕ → List ℕ → Type 0
  ListsPassing i found = (q : ℕ) → members_of found q ≡ (members_of (take i numbers) q && test q)

  module _ (i x : ℕ) (inside : i < length numbers) (here : x ≡ get_or numbers i 0) (found : List ℕ) (so_far : ListsPassing i found) where
    next_taken : (q : ℕ) → members_of (take (i + 1) numbers) q ≡ (members_of (take i numbers) q || (eqb x q || false))
    next_taken q =
        ap (λ list. members_of list q) (take_more numbers i 0 inside ∙ ap (λ n. take i numbers ++ n ∷ []) (sym here))
        ∙ list_any-append (λ member. eqb member q) (take i numbers) (x ∷ [])

    pub passing_more : (after : List ℕ) → test x ≡ true → after ≡ found ++ x ∷ [] → ListsPassing (i + 1) after
    passing_more after passes after_is q =
        ap (λ list. members_of list q) after_is
        ∙ (list_any-append (λ member. eqb member q) found (x ∷ [])
        ∙ (ap (λ b. b || (eqb x q || false)) (so_far q)
        ∙ (one_passes (members_of (take i numbers) q) (eqb x q) (test q) (λ same. ap test (sym (eqb-true x q same)) ∙ passes) ∙ ap (λ b. b && test q) (sym (next_taken q)))))

    pub passing_skipped : test x ≡ false → ListsPassing (i + 1) found
    passing_skipped fails q =
        so_far q ∙ (one_fails (members_of (take i numbers) q) (eqb x q) (test q) (λ same. ap test (sym (eqb-true x q same)) ∙ fails) ∙ ap (λ b. b && test q) (sym (next_taken q)))

  pub passing_whole : (i : ℕ) → length numbers ≤ i → (found : List ℕ) → ListsPassing i found → (q : ℕ) → members_of found q ≡ (members_of numbers q && test q)
  passing_whole i past found so_far q = so_far q ∙ ap (λ list. members_of list q && test q) (take_whole numbers i past)
