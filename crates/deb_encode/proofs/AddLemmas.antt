-- Clauses that are added, one after another, and what they say together; and numbers that come to a list.
use Rattle.std.proofs.Common.{◌≡◌, ◌⊎◌, ℕ, ◌+◌, ◌<◌, true, false, ◌||◌, eqb, List, [], ◌∷◌, ◌++◌, length, get_or, take, All, ◌↔◌, refl, sym, subst, ◌∙◌, ap, inl, inr, arith, append_assoc}
use Rattle.std.proofs.lemmas.Bool.{false≢true, or_cases, eqb-true}
use Rattle.std.proofs.lemmas.List.{take_more, append-nil}
use Rattle.std.proofs.lemmas.List.Elements.{All-nil, All-append}
use Rattle.std.proofs.lemmas.List.Folds.{list_any-append}
use Rattle.number_sets.specs.Sets.{NumberSet, members_of}
use Rattle.sat_solve.specs.Clauses.{Clauses, clause_holds}
use Rattle.deb_encode.specs.Play.{Adds}
use Rattle.number_sets.proofs.ListLemmas.{All-front, All-back}
use Rattle.number_sets.proofs.MembersLemmas.{pushed_has, pushed_keeps}

-- nothing is added, for what holds anyway
pub adds_none : (group : ℕ) (Means : NumberSet → Type 0) (before : Clauses) → ((set : NumberSet) → Means set) → Adds group Means before before
adds_none group Means before always = record {
  vars = refl;
  groups = refl;
  more = [];
  appended = sym (append-nil before.clauses);
  in_group = All-nil (λ clause. clause.group ≡ group);
  says = λ set. (λ holds. always set, λ means. All-nil (λ clause. clause_holds set clause.literals ≡ true));
}

-- the clauses of two steps say what both say
pub adds_both : (group : ℕ) (A B : NumberSet → Type 0) (before between after : Clauses) → Adds group A before between → Adds group B between after
    → Adds group (λ set. A set × B set) before after
adds_both group A B before between after first second = record {
  vars = second.vars ∙ first.vars;
  groups = second.groups ∙ first.groups;
  more = first.more ++ second.more;
  appended = second.appended ∙ (ap (λ clauses. clauses ++ second.more) first.appended ∙ append_assoc before.clauses first.more second.more);
  in_group = All-append (λ clause. clause.group ≡ group) first.more second.more first.in_group second.in_group;
  says = λ set. (
    λ holds. (
      (first.says set).0 (All-front (λ clause. clause_holds set clause.literals ≡ true) first.more second.more holds),
      (second.says set).0 (All-back (λ clause. clause_holds set clause.literals ≡ true) first.more second.more holds),
    ),
    λ means. All-append (λ clause. clause_holds set clause.literals ≡ true) first.more second.more ((first.says set).1 means.0) ((second.says set).1 means.1),
  );
}

-- the same, said in other words
pub adds_as : (group : ℕ) (A B : NumberSet → Type 0) (before after : Clauses) → ((set : NumberSet) → (A set ↔ B set)) → Adds group A before after → Adds group B before after
adds_as group A B before after same adds = record {
  vars = adds.vars;
  groups = adds.groups;
  more = adds.more;
  appended = adds.appended;
  in_group = adds.in_group;
  says = λ set. (λ holds. (same set).0 ((adds.says set).0 holds), λ means. (adds.says set).1 ((same set).1 means));
}

pub in_push : (xs : List ℕ) (x q : ℕ) → members_of (xs ++ x ∷ []) q ≡ true → (members_of xs q ≡ true) ⊎ (x ≡ q)
in_push xs x q is_in =
    elim (or_cases (members_of xs q) (eqb x q || false) (sym (list_any-append (λ member. eqb member q) xs (x ∷ [])) ∙ is_in)) [
      | inl old ↦ inl old
      | inr added ↦ elim (or_cases (eqb x q) false added) [
        | inl here ↦ inr (eqb-true x q here)
        | inr never ↦ absurd (false≢true never)
      ]
    ]

-- the front of a list, and one more of it
module _ (xs : List ℕ) (i : ℕ) (inside : i < length xs) where
  pub taken_either : (q : ℕ) → members_of (take (i + 1) xs) q ≡ true → (members_of (take i xs) q ≡ true) ⊎ (get_or xs i 0 ≡ q)
  taken_either q is_in = in_push (take i xs) (get_or xs i 0) q (ap (λ list. members_of list q) (sym (take_more xs i 0 inside)) ∙ is_in)

  pub taken_before : (q : ℕ) → members_of (take i xs) q ≡ true → members_of (take (i + 1) xs) q ≡ true
  taken_before q is_in = ap (λ list. members_of list q) (take_more xs i 0 inside) ∙ pushed_keeps (take i xs) (get_or xs i 0) q is_in

  pub taken_last : members_of (take (i + 1) xs) (get_or xs i 0) ≡ true
  taken_last = ap (λ list. members_of list (get_or xs i 0)) (take_more xs i 0 inside) ∙ pushed_has (take i xs) (get_or xs i 0)

-- numbers below a limit, in a list that is another
pub below_moved : (xs ys : List ℕ) (limit bound : ℕ) → xs ≡ ys → limit ≡ bound → All (λ q. q < bound) ys → All (λ q. q < limit) xs
below_moved xs ys limit bound same size below =
    let Below : List ℕ → Type 0 = λ zs. All (λ q. q < limit) zs in
    subst Below (sym same) (λ k d inside. omega (arith, below k d inside, size))
