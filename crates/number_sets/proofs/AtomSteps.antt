-- One element more of a list that is gone through.
use Rattle.std.proofs.Common.{◌≡◌, ℕ, ◌+◌, ◌<◌, Bool, true, false, List, [], ◌∷◌, ◌++◌, filter, length, get_or, take, map, append-nil, sym, ap, ◌∙◌}
use Rattle.std.specs.List.{flat_map}
use Rattle.std.proofs.lemmas.Grind.{flat_map-append}
use Rattle.std.proofs.lemmas.List.{append_assoc, map-append, take_more}
use Rattle.number_sets.proofs.ListLemmas.{filter_fails, filter_passes}

pub map_more : {A B : Type 0} (f : A → B) (xs : List A) (i : ℕ) (d : A) → i < length xs → map f (take (i + 1) xs) ≡ map f (take i xs) ++ f (get_or xs i d) ∷ []
map_more f xs i d inside = ap (map f) (take_more xs i d inside) ∙ map-append f (take i xs) (get_or xs i d ∷ [])

-- what was pushed is the next of them
pub pushed : {A B C : Type 0} (view : A → C) (seen : B → C) (new old : List A) (x : A) (start : List C) (xs : List B) (i : ℕ) (d : B)
    → new ≡ old ++ x ∷ [] → map view old ≡ start ++ map seen (take i xs) → i < length xs → view x ≡ seen (get_or xs i d)
    → map view new ≡ start ++ map seen (take (i + 1) xs)
pushed view seen new old x start xs i d is so_far inside same =
    ap (map view) is
    ∙ map-append view old (x ∷ [])
    ∙ ap (λ front. front ++ view x ∷ []) so_far
    ∙ append_assoc start (map seen (take i xs)) (view x ∷ [])
    ∙ ap (λ last. start ++ (map seen (take i xs) ++ last ∷ [])) same
    ∙ ap (λ back. start ++ back) (sym (map_more seen xs i d inside))

-- what came is that of the next of them
pub gathered : {A C D : Type 0} (f : C → List D) (view : A → C) (new old : List D) (x : C) (xs : List A) (i : ℕ) (d : A)
    → new ≡ old ++ f x → old ≡ flat_map f (map view (take i xs)) → i < length xs → x ≡ view (get_or xs i d)
    → new ≡ flat_map f (map view (take (i + 1) xs))
gathered f view new old x xs i d is so_far inside same =
    is
    ∙ ap (λ front. front ++ f x) so_far
    ∙ ap (λ last. flat_map f (map view (take i xs)) ++ f last) same
    ∙ ap (λ last. flat_map f (map view (take i xs)) ++ last) (sym (append-nil (f (view (get_or xs i d)))))
    ∙ sym (flat_map-append f (map view (take i xs)) (view (get_or xs i d) ∷ []))
    ∙ ap (flat_map f) (sym (map_more view xs i d inside))

-- what was pushed is the next of them that passes a test
pub kept : {A B C : Type 0} (test : C → Bool) (view : A → C) (seen : B → C) (new old : List A) (x : A) (xs : List B) (i : ℕ) (d : B)
    → new ≡ old ++ x ∷ [] → map view old ≡ filter test (map seen (take i xs)) → i < length xs → view x ≡ seen (get_or xs i d) → test (view x) ≡ true
    → map view new ≡ filter test (map seen (take (i + 1) xs))
kept test view seen new old x xs i d is so_far inside same passes =
    ap (map view) is
    ∙ map-append view old (x ∷ [])
    ∙ ap (λ front. front ++ view x ∷ []) so_far
    ∙ sym (filter_passes test (map seen (take i xs)) (map seen (take (i + 1) xs)) (view x)
    (map_more seen xs i d inside ∙ ap (λ last. map seen (take i xs) ++ last ∷ []) (sym same)) passes)

-- nothing is pushed where the next fails it
pub left_out : {A B C : Type 0} (test : C → Bool) (view : A → C) (seen : B → C) (old : List A) (xs : List B) (i : ℕ) (d : B)
    → map view old ≡ filter test (map seen (take i xs)) → i < length xs → test (seen (get_or xs i d)) ≡ false → map view old ≡ filter test (map seen (take (i + 1) xs))
left_out test view seen old xs i d so_far inside fails =
    so_far ∙ sym (filter_fails test (map seen (take i xs)) (map seen (take (i + 1) xs)) (seen (get_or xs i d)) (map_more seen xs i d inside) fails)
