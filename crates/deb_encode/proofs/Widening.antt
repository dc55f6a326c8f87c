-- Clauses in the making, and what is added with them.
use Rattle.std.proofs.Common.{◌≡◌, ℕ, zero, suc, ◌+◌, ◌<◌, ◌≤◌, Bool, true, false, ◌||◌, List, [], ◌∷◌, length, get_or, take, All, ◌↔◌, sym, subst, ◌∙◌, ap, inl, inr, arith}
use Rattle.std.specs.List.{list_any}
use Rattle.std.proofs.lemmas.Bool.{false≢true, or_cases, or_left, or_right}
use Rattle.std.proofs.lemmas.List.Folds.{list_any_more}
use Rattle.sat_solve.specs.declared.clause.Lit.{Lit}
use Rattle.number_sets.specs.Sets.{NumberSet}
use Rattle.sat_solve.specs.Clauses.{clause_holds}
use Rattle.deb_encode.specs.declared.encoder.Encoder.{Encoder}
use Rattle.deb_encode.specs.declared.play.Play.{Play}
use Rattle.deb_encode.specs.Encoders.{IsSame, AddsVars}
use Rattle.deb_encode.specs.Exclusions.{Widens}
use Rattle.deb_encode.proofs.EncoderLemmas.{tells_here, tells_as, tells_from}
use Rattle.number_sets.proofs.ListLemmas.{or_assoc}
use Rattle.number_sets.proofs.ListMembers.{take_whole}

any_kept : {A : Type 0} (test : A → Bool) (i : ℕ) (xs : List A) → list_any test (take i xs) ≡ true → list_any test xs ≡ true
any_kept test zero xs holds = absurd (false≢true holds)
any_kept test (suc i) [] holds = absurd (false≢true holds)
any_kept test (suc i) (x ∷ xs) holds =
    elim (or_cases (test x) (list_any test (take i xs)) holds) [
      | inl here ↦ or_left (test x) (list_any test xs) here
      | inr later ↦ or_right (test x) (list_any test xs) (any_kept test i xs later)
    ]

module _ (count : ℕ) where
  -- for one test, and then for another one
  pub widens_both : (A B : NumberSet → Bool) (before between after : List Lit) (anyway : Bool) → Widens A count before between false → Widens B count between after anyway
      → Widens (λ vars. A vars || B vars) count before after anyway
  widens_both A B before between after anyway first second = record {
    in_range = λ all. second.in_range (first.in_range all);
    says = λ vars. second.says vars ∙ (ap (λ b. b || B vars) (first.says vars) ∙ or_assoc (clause_holds vars before) (A vars) (B vars));
  }

  -- the same test in other words
  pub widens_as : (A B : NumberSet → Bool) (before after : List Lit) (anyway : Bool) → ((vars : NumberSet) → A vars ≡ B vars) → Widens A count before after anyway → Widens B count before after anyway
  widens_as A B before after anyway same widens = record {
    in_range = widens.in_range;
    says = λ vars. widens.says vars ∙ ap (λ b. clause_holds vars before || b) (same vars);
  }

  -- what holds anyway for a test holds anyway where more passes
  pub widens_settled : (A B : NumberSet → Bool) (before after : List Lit) → ((vars : NumberSet) → A vars ≡ true → B vars ≡ true) → Widens A count before after true → Widens B count before after true
  widens_settled A B before after more widens = record {
    in_range = widens.in_range;
    says = λ vars.
        elim (or_cases (clause_holds vars before) (A vars) (sym (widens.says vars))) [
          | inl held ↦ sym (or_left (clause_holds vars before) (B vars) held)
          | inr passes ↦ sym (or_right (clause_holds vars before) (B vars) (more vars passes))
        ];
  }

  module _ {A : Type 0} (test : NumberSet → A → Bool) (xs : List A) where
    -- one element more that may pass
    pub some_more : (i : ℕ) (d : A) (before between after : List Lit) (anyway : Bool) → i < length xs → Widens (λ vars. list_any (test vars) (take i xs)) count before between false
        → Widens (λ vars. test vars (get_or xs i d)) count between after anyway → Widens (λ vars. list_any (test vars) (take (i + 1) xs)) count before after anyway
    some_more i d before between after anyway inside so_far one =
        widens_as (λ vars. list_any (test vars) (take i xs) || test vars (get_or xs i d)) (λ vars. list_any (test vars) (take (i + 1) xs)) before after anyway
        (λ vars. sym (list_any_more (test vars) xs i d inside))
        (widens_both (λ vars. list_any (test vars) (take i xs)) (λ vars. test vars (get_or xs i d)) before between after anyway so_far one)

    pub some_settled : (i : ℕ) (d : A) (before between after : List Lit) (anyway : Bool) → anyway ≡ true → i < length xs → Widens (λ vars. list_any (test vars) (take i xs)) count before between false
        → Widens (λ vars. test vars (get_or xs i d)) count between after anyway → Widens (λ vars. list_any (test vars) xs) count before after true
    some_settled i d before between after anyway is_true inside so_far one =
        let With : Bool → Type 0 = λ b. Widens (λ vars. test vars (get_or xs i d)) count between after b in
        widens_settled (λ vars. list_any (test vars) (take (i + 1) xs)) (λ vars. list_any (test vars) xs) before after (λ vars passes. any_kept (test vars) (i + 1) xs passes)
        (some_more i d before between after true inside so_far (subst With is_true one))

    pub some_open : (i : ℕ) (d : A) (before between after : List Lit) (anyway : Bool) → anyway ≡ false → i < length xs → Widens (λ vars. list_any (test vars) (take i xs)) count before between false
        → Widens (λ vars. test vars (get_or xs i d)) count between after anyway → Widens (λ vars. list_any (test vars) (take (i + 1) xs)) count before after false
    some_open i d before between after anyway is_false inside so_far one =
        let With : Bool → Type 0 = λ b. Widens (λ vars. test vars (get_or xs i d)) count between after b in
        some_more i d before between after false inside so_far (subst With is_false one)

    pub some_whole : (i : ℕ) (before after : List Lit) → length xs ≤ i → Widens (λ vars. list_any (test vars) (take i xs)) count before after false → Widens (λ vars. list_any (test vars) xs) count before after false
    some_whole i before after past so_far =
        let For : List A → Type 0 = λ list. Widens (λ vars. list_any (test vars) list) count before after false in
        subst For (take_whole xs i past) so_far

-- ---- what is added with them

module _ (count : ℕ) (test : NumberSet → Bool) (empty clause : List Lit) (anyway : Bool) (is_empty : empty ≡ []) (widens : Widens test count empty clause anyway) where
  -- a clause that was made from none says that the test passes
  pub widened_says : (vars : NumberSet) → (anyway || clause_holds vars clause) ≡ test vars
  widened_says vars = widens.says vars ∙ ap (λ literals. clause_holds vars literals || test vars) is_empty

  -- what holds anyway passes in each set
  pub settled_passes : anyway ≡ true → (vars : NumberSet) → test vars ≡ true
  settled_passes is_true vars = sym (widened_says vars) ∙ ap (λ b. b || clause_holds vars clause) is_true

  -- its literals are of variables
  pub widened_below : All (λ (literal : Lit). literal.var < count) clause
  widened_below =
      let Below : List Lit → Type 0 = λ literals. All (λ (literal : Lit). literal.var < count) literals in
      widens.in_range (subst Below (sym is_empty) (λ k d inside. absurd (omega (arith, inside))))

-- after a step that leaves the clause open
pub widens_next : (count : ℕ) (A B : NumberSet → Bool) (empty between clause : List Lit) (first anyway : Bool) → first ≡ false → Widens A count empty between first → Widens B count between clause anyway
    → Widens (λ vars. A vars || B vars) count empty clause anyway
widens_next count A B empty between clause first anyway is_open one other =
    let With : Bool → Type 0 = λ b. Widens A count empty between b in
    widens_both count A B empty between clause anyway (subst With is_open one) other

module _ (A : Play → NumberSet → Type 0) (count : ℕ) (test : NumberSet → Bool) (empty clause : List Lit) (anyway : Bool) (start now : Encoder) (same : IsSame start now) (is : now.formula.now ≡ start.formula.now)
    (is_empty : empty ≡ []) (widens : Widens test count empty clause anyway) where
  -- so nothing is added where it holds anyway
  pub clause_settled : anyway ≡ true → ((vars : NumberSet) → test vars ≡ true → A start.play vars) → AddsVars A start now
  clause_settled is_true says = tells_here A start now same is (λ vars. says vars (settled_passes count test empty clause anyway is_empty widens is_true vars))

  -- and else what the test says
  pub clause_told : (next : Encoder) → ((vars : NumberSet) → ((test vars ≡ true) ↔ A start.play vars)) → AddsVars (λ play vars. (anyway || clause_holds vars clause) ≡ true) now next → AddsVars A start next
  clause_told next says told =
      tells_as (λ play vars. (anyway || clause_holds vars clause) ≡ true) A start next
      (λ vars.
      let same_test = widened_says count test empty clause anyway is_empty widens vars in (
        λ holds. (says vars).0 (sym same_test ∙ holds),
        λ means. same_test ∙ (says vars).1 means,
      ))
      (tells_from (λ play vars. (anyway || clause_holds vars clause) ≡ true) start now next same is told)
