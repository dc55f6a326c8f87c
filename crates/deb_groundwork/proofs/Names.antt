-- The distinct names of an index: each has one number.
use Rattle.std.proofs.Common.{◌≡◌, ℕ, ◌<◌, Bool, true, false, not, List, [], ◌∷◌, map, length, refl, sym, ◌∙◌, ap, inl, inr, arith}
use Rattle.std.specs.List.{AllPairs, filter}
use Rattle.std.specs.Str.{bytes_eq}
use Rattle.std.proofs.lemmas.Bool.{cases_order, false≢true, both_ways}
use Rattle.std.proofs.lemmas.List.Elements.{All-weaker, filter_passes}
use Rattle.std.proofs.lemmas.List.Kept.{AllPairs-cons, AllPairs-filter}
use Rattle.deb_index.specs.Packages.{IndexView, PackageView, names, name_at, first_of_each}
use Rattle.deb_index.proofs.FirstLemmas.{name-itself}

abbrev OtherName : List ℕ → List ℕ → Type 0
OtherName a b = bytes_eq a b ≡ false

not_false : (b : Bool) → not b ≡ true → b ≡ false
not_false true holds = absurd (false≢true holds)
not_false false holds = refl

distinct : (xs : List (List ℕ)) → AllPairs OtherName (first_of_each bytes_eq xs)
unfolding first_of_each
distinct [] = λ i j d less inside. absurd (omega arith)
distinct (x ∷ xs) =
    AllPairs-cons OtherName x (filter (λ y. not (bytes_eq x y)) (first_of_each bytes_eq xs))
    (All-weaker (λ y. not (bytes_eq x y) ≡ true) (OtherName x) (λ y holds. not_false (bytes_eq x y) holds) (filter (λ y. not (bytes_eq x y)) (first_of_each bytes_eq xs))
    (filter_passes (λ y. not (bytes_eq x y)) (first_of_each bytes_eq xs)))
    (AllPairs-filter OtherName (λ y. not (bytes_eq x y)) (first_of_each bytes_eq xs) (distinct xs))

module _ (index : IndexView) where
  not_before : (number other : ℕ) → number < other → other < length (names index) → name_at index number ≡ name_at index other → ⊥
  not_before number other less inside same =
      both_ways (bytes_eq (name_at index number) (name_at index other)) (distinct (map (λ (p : PackageView). p.name) index.packages) number other [] less inside)
      (ap (λ name. bytes_eq name (name_at index other)) same ∙ name-itself (name_at index other))

  -- two numbers of one name are the same
  pub one_number : (number other : ℕ) → number < length (names index) → other < length (names index) → name_at index number ≡ name_at index other → number ≡ other
  one_number number other within also same =
      elim (cases_order number other) [
        | inl equal ↦ equal
        | inr apart ↦ elim apart [
          | inl less ↦ absurd (not_before number other less also same)
          | inr more ↦ absurd (not_before other number more within (sym same))
        ]
      ]
