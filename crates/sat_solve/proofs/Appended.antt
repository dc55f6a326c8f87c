-- A list that the images of another list are put behind, one after another.
use Rattle.std.proofs.Common.{◌≡◌, ℕ, ◌+◌, ◌<◌, ◌≤◌, List, [], ◌∷◌, ◌++◌, map, length, get_or, take, sym, ◌∙◌, ap, append_assoc}
use Rattle.std.proofs.lemmas.List.{append-nil, map-append, take_more, take_all}

module _ {A B : Type 0} (image : A → B) (xs : List A) (before : List B) where
  -- the images of the first `i` came behind the list
  abbrev pub Appends : ℕ → List B → Type 0
  Appends i now = now ≡ before ++ map image (take i xs)

  pub appended_start : Appends 0 before
  appended_start = sym (append-nil before)

  pub appended_more : (i : ℕ) (d : A) (now after : List B) → i < length xs → after ≡ now ++ image (get_or xs i d) ∷ [] → Appends i now → Appends (i + 1) after
  appended_more i d now after inside after_is so_far =
      after_is
      ∙ (ap (λ list. list ++ image (get_or xs i d) ∷ []) so_far
      ∙ (append_assoc before (map image (take i xs)) (image (get_or xs i d) ∷ [])
      ∙ ap (λ more. before ++ more) (sym (ap (map image) (take_more xs i d inside) ∙ map-append image (take i xs) (get_or xs i d ∷ [])))))

  pub appended_whole : (i : ℕ) (now : List B) → length xs ≤ i → Appends i now → now ≡ before ++ map image xs
  appended_whole i now past so_far = so_far ∙ ap (λ list. before ++ map image list) (take_all i xs past)
