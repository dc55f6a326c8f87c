-- What an encoder adds for one number after the other, and what it says together.
use Rattle.std.proofs.Common.{◌≡◌, ℕ, ◌+◌, ◌<◌, ◌≤◌, true, List, [], ◌∷◌, ◌++◌, length, get_or, take, All, ◌↔◌, sym, subst, ◌∙◌, ap, inl, inr, arith}
use Rattle.std.proofs.lemmas.Bool.{cases_lt, false≢true}
use Rattle.std.proofs.lemmas.List.{take_more}
use Rattle.std.proofs.lemmas.List.Elements.{All-nil, All-head, All-push}
use Rattle.number_sets.specs.Sets.{NumberSet, members_of}
use Rattle.sat_solve.specs.Clauses.{Clause, Clauses}
use Rattle.deb_encode.specs.declared.encoder.Encoder.{Encoder}
use Rattle.deb_encode.specs.declared.play.Play.{Play}
use Rattle.deb_encode.specs.Play.{Adds, AllHold}
use Rattle.deb_encode.specs.Encoders.{AddsVars}
use Rattle.number_sets.proofs.ListLemmas.{All-front, All-back}
use Rattle.deb_encode.proofs.AddLemmas.{taken_either, taken_before, taken_last}
use Rattle.deb_encode.proofs.EncoderLemmas.{tells_none, tells_as, tells_both}
use Rattle.number_sets.proofs.ListMembers.{take_whole}

module _ (Means : ℕ → Play → NumberSet → Type 0) where
  -- each number of a list was told
  abbrev pub AddsEach : List ℕ → Encoder → Encoder → Type 0
  AddsEach xs = AddsVars (λ play vars. (q : ℕ) → members_of xs q ≡ true → Means q play vars)

  pub each_none : (start : Encoder) → AddsEach [] start start
  each_none start = tells_none (λ play vars. (q : ℕ) → members_of [] q ≡ true → Means q play vars) start (λ vars q never. absurd (false≢true never))

  pub each_more : (xs : List ℕ) (i x : ℕ) (start now next : Encoder) → i < length xs → x ≡ get_or xs i 0 → AddsEach (take i xs) start now → AddsVars (Means x) now next → AddsEach (take (i + 1) xs) start next
  each_more xs i x start now next inside here so_far one =
      tells_as (λ play vars. ((q : ℕ) → members_of (take i xs) q ≡ true → Means q play vars) × Means x play vars) (λ play vars. (q : ℕ) → members_of (take (i + 1) xs) q ≡ true → Means q play vars) start next
      (λ vars.
      let At : ℕ → Type 0 = λ r. Means r start.play vars in (
        λ both q is_in.
            elim (taken_either xs i inside q is_in) [
              | inl old ↦ both.0 q old
              | inr last ↦ subst At (here ∙ last) both.1
            ],
        λ all. (λ q is_in. all q (taken_before xs i inside q is_in), subst At (sym here) (all (get_or xs i 0) (taken_last xs i inside))),
      ))
      (tells_both (λ play vars. (q : ℕ) → members_of (take i xs) q ≡ true → Means q play vars) (Means x) start now next so_far one)

  pub each_whole : (xs : List ℕ) (i : ℕ) (start now : Encoder) → length xs ≤ i → AddsEach (take i xs) start now → AddsEach xs start now
  each_whole xs i start now past so_far = (let For : List ℕ → Type 0 = λ list. AddsEach list start now in subst For (take_whole xs i past) so_far)

  -- each number below a limit was told
  abbrev pub AddsBelow : ℕ → Encoder → Encoder → Type 0
  AddsBelow limit = AddsVars (λ play vars. (j : ℕ) → j < limit → Means j play vars)

  pub below_none : (start : Encoder) → AddsBelow 0 start start
  below_none start = tells_none (λ play vars. (j : ℕ) → j < 0 → Means j play vars) start (λ vars j never. absurd (omega (arith, never)))

  pub below_next : (i : ℕ) (start now next : Encoder) → AddsBelow i start now → AddsVars (Means i) now next → AddsBelow (i + 1) start next
  below_next i start now next so_far one =
      tells_as (λ play vars. ((j : ℕ) → j < i → Means j play vars) × Means i play vars) (λ play vars. (j : ℕ) → j < i + 1 → Means j play vars) start next
      (λ vars. (
        λ both j less.
            elim (cases_lt j i) [
              | inl old ↦ both.0 j old
              | inr last ↦ let same : i ≡ j = omega arith in let At : ℕ → Type 0 = λ k. Means k start.play vars in subst At same both.1
            ],
        λ all. (λ j less. all j (omega arith), all i (omega arith)),
      ))
      (tells_both (λ play vars. (j : ℕ) → j < i → Means j play vars) (Means i) start now next so_far one)

module _ {A : Type 0} (Means : A → Play → NumberSet → Type 0) where
  -- each element of a list was told
  abbrev pub AddsAll : List A → Encoder → Encoder → Type 0
  AddsAll xs = AddsVars (λ play vars. All (λ x. Means x play vars) xs)

  pub all_none : (start : Encoder) → AddsAll [] start start
  all_none start = tells_none (λ play vars. All (λ x. Means x play vars) []) start (λ vars. All-nil (λ x. Means x start.play vars))

  pub all_more : (xs : List A) (i : ℕ) (d : A) (start now next : Encoder) → i < length xs → AddsAll (take i xs) start now → AddsVars (Means (get_or xs i d)) now next → AddsAll (take (i + 1) xs) start next
  all_more xs i d start now next inside so_far one =
      let x : A = get_or xs i d in
      let For : List A → Type 0 = λ list. AddsAll list start next in
      subst For (sym (take_more xs i d inside))
      (tells_as (λ play vars. All (λ y. Means y play vars) (take i xs) × Means x play vars) (λ play vars. All (λ y. Means y play vars) (take i xs ++ x ∷ [])) start next
      (λ vars. (
        λ both. All-push (λ y. Means y start.play vars) (take i xs) x both.0 both.1,
        λ all. (All-front (λ y. Means y start.play vars) (take i xs) (x ∷ []) all, All-head (λ y. Means y start.play vars) x [] (All-back (λ y. Means y start.play vars) (take i xs) (x ∷ []) all)),
      ))
      (tells_both (λ play vars. All (λ y. Means y play vars) (take i xs)) (Means x) start now next so_far one))

  pub all_whole : (xs : List A) (i : ℕ) (start now : Encoder) → length xs ≤ i → AddsAll (take i xs) start now → AddsAll xs start now
  all_whole xs i start now past so_far = (let For : List A → Type 0 = λ list. AddsAll list start now in subst For (take_whole xs i past) so_far)

-- what was added to no clauses is all of the formula
module _ (group count groups : ℕ) (Means : NumberSet → Type 0) (before after : Clauses) (empty : before ≡ record { vars = count; groups = groups; clauses = [] }) (adds : Adds group Means before after) where
  pub added_vars : after.vars ≡ count
  added_vars = adds.vars ∙ ap (λ (f : Clauses). f.vars) empty

  pub added_groups : after.groups ≡ groups
  added_groups = adds.groups ∙ ap (λ (f : Clauses). f.groups) empty

  added_clauses : after.clauses ≡ adds.more
  added_clauses = adds.appended ∙ ap (λ (f : Clauses). f.clauses ++ adds.more) empty

  pub added_in_group : All (λ clause. clause.group ≡ group) after.clauses
  added_in_group = (let InGroup : List Clause → Type 0 = λ list. All (λ clause. clause.group ≡ group) list in subst InGroup (sym added_clauses) adds.in_group)

  pub added_says : (vars : NumberSet) → (AllHold after.clauses vars ↔ Means vars)
  added_says vars = (let Says : List Clause → Type 0 = λ list. AllHold list vars ↔ Means vars in subst Says (sym added_clauses) (adds.says vars))
