-- A group is missing where no place answers it.
use Rattle.std.proofs.Common.{◌≡◌, ◌==◌, ℕ, ◌+◌, length, Bool, true, false, ◌&&◌, ◌||◌, List, [], ◌∷◌, refl, sym, ap, ◌∙◌, inl, inr}
use Rattle.std.specs.List.{list_any}
use Rattle.std.proofs.lemmas.Bool.{cases_Bool}
use Rattle.deb_relation.specs.Relationship.{AtomText}
use Rattle.deb_index.specs.Meets.{group_satisfiers, meets_need, need_satisfiers}
use Rattle.deb_index.specs.Packages.{IndexView, places_where}
use Rattle.number_sets.proofs.PlaceLemmas.{one-is-some, places_from}
use Rattle.deb_causes.specs.Near.{is_missing}

abbrev pub is_empty : List ℕ → Bool
is_empty places = length places == 0

-- no element passes a test that none passes
none-passes : {A : Type 0} (n : ℕ) (xs : List A) → places_from (λ (x : A). false) n xs ≡ []
none-passes n [] = refl
none-passes n (x ∷ xs) = none-passes (n + 1) xs

-- no element passes one of two tests where none passes either
none-of-both : {A : Type 0} (p q : A → Bool) (n : ℕ) (xs : List A) → is_empty (places_from (λ x. p x || q x) n xs) ≡ (is_empty (places_from p n xs) && is_empty (places_from q n xs))
none-of-both p q n [] = refl
none-of-both p q n (x ∷ xs) =
    elim (cases_Bool (p x)) [
      | inl first ↦ rw (first, one-is-some n (places_from (λ x. p x || q x) (n + 1) xs), one-is-some n (places_from p (n + 1) xs)) refl
      | inr other ↦
          elim (cases_Bool (q x)) [
            | inl second ↦
                rw (other, second, one-is-some n (places_from (λ x. p x || q x) (n + 1) xs), one-is-some n (places_from q (n + 1) xs))
                (sym (and_false (is_empty (places_from p (n + 1) xs))))
            | inr neither ↦ rw (other, neither) (none-of-both p q (n + 1) xs)
          ]
    ]
  where
    and_false : (b : Bool) → (b && false) ≡ false
    and_false true = refl
    and_false false = refl

pub missing-where : (index : IndexView) (group : List AtomText) → is_missing index group ≡ is_empty (group_satisfiers index group)
unfolding is_missing places_where
missing-where index [] = sym (ap is_empty (none-passes 0 index.packages))
missing-where index (atom ∷ group) =
    ap (λ rest. is_empty (need_satisfiers index atom) && rest) (missing-where index group)
    ∙ sym (none-of-both (λ q. meets_need index.arch q atom) (λ q. list_any (meets_need index.arch q) group) 0 index.packages)
