-- The lines of a file of names.
use Rattle.std.proofs.Common.{◌≡◌, ◌∙◌, ◌+◌, ◌<◌, ℕ, Bool, Bor, List, ap, arith, false, get_or, length, map, sym, take, true}
use Rattle.std.specs.List.{list_all, prefix_len}
use Rattle.std.proofs.Math.ListN.{get_or-map}
use Rattle.std.proofs.lemmas.List.{get_or-take, length-map, length-take-le, take-map}
use Rattle.std.proofs.lemmas.List.Folds.{list_all_at}
use Rattle.std.proofs.lemmas.List.Sums.{AllPass-from_list_all, prefix_len_is}
use Rattle.deb_relation.specs.Relationship.{is_name}
use Rattle.deb_input.specs.Names.{are_names, bad_line, lines_in}

-- elements that pass, and then one that doesn't
pub first-failing : {A : Type 0} (p : A → Bool) (xs : List A) (k : ℕ) (d : A) → k < length xs → list_all p (take k xs) ≡ true → p (get_or xs k d) ≡ false → (list_all p xs ≡ false) × (prefix_len p xs ≡ k)
first-failing p xs k d within before bad =
    let passes = AllPass-from_list_all p (take k xs) before in
    let few : length (take k xs) ≡ k = length-take-le k xs (omega (arith, within)) in (
      list_all_at p xs k d within bad,
      prefix_len_is p xs k d (omega (arith, within)) (λ j below. ap p (sym (get_or-take k xs j d below)) ∙ passes j d (omega (arith, few, below))) (λ here. bad),
    )

first-unnamed : {A B : Type 0} (p : B → Bool) (f : A → B) (xs : List A) (k : ℕ) (d : A) → k < length xs → list_all p (map f (take k xs)) ≡ true → p (f (get_or xs k d)) ≡ false
    → (list_all p (map f xs) ≡ false) × (prefix_len p (map f xs) ≡ k)
first-unnamed p f xs k d within before bad =
    first-failing p (map f xs) k (f d) (omega (arith, within, length-map xs f)) (ap (list_all p) (take-map f k xs) ∙ before) (ap p (get_or-map f xs k d) ∙ bad)

-- the number of the line behind those that are names
pub bad-line : {V : Type 0} (text : List ℕ) (items : List (Bor (List ℕ))) (names : List V) (k n : ℕ) (d : Bor (List ℕ)) (f : V → List ℕ) → map (λ line. line.now) items ≡ lines_in text → k < length items
    → map f names ≡ map (λ line. line.now) (take k items) → list_all is_name (map (λ line. line.now) (take k items)) ≡ true → is_name (get_or items k d).now ≡ false → n ≡ length names
    → (are_names text ≡ false) × (n + 1 ≡ bad_line text)
bad-line text items names k n d f parts within same before bad counted =
    let first = first-unnamed is_name (λ (line : Bor (List ℕ)). line.now) items k d within before bad in
    let few : length (take k items) ≡ k = length-take-le k items (omega (arith, within)) in
    let many : length names ≡ k = sym (length-map names f) ∙ ap length same ∙ length-map (take k items) (λ (line : Bor (List ℕ)). line.now) ∙ few in
    rw (← parts) (first.0, rw first.1 (omega (arith, many, counted)))
