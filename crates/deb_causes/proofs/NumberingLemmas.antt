-- Texts with numbers: one more, and what stays.
use Rattle.std.proofs.Common.{◌≡◌, ℕ, suc, ◌+◌, Bool, true, false, cond, List, [], ◌∷◌, ◌++◌, map, Option, Some, None, append-nil, arith, inl, inr, refl, sym, ap, ◌∙◌, subst}
use Rattle.std.specs.List.{list_any, position_or_len}
use Rattle.std.specs.Option.{option_map}
use Rattle.std.specs.Str.{bytes_eq}
use Rattle.std.proofs.lemmas.Bool.{cases_Bool}
use Rattle.std.proofs.lemmas.List.{append_assoc, map-append}
use Rattle.deb_index.specs.Packages.{first_of_each}
use Rattle.deb_index.specs.Tables.{number_in}
use Rattle.deb_index.proofs.FirstLemmas.{any-map, first-push, name-itself}
use Rattle.deb_index.proofs.TableLemmas.{any-turned, names-chain}
use Rattle.deb_causes.specs.Numbering.{Grows, IsFront, with_text}

none-some : (i : ℕ) → None ≡ Some i → ⊥
none-some i e = cc

-- ---- numbers

pub number-front : (text : List ℕ) (front rest : List (List ℕ)) (i : ℕ) → number_in text front ≡ Some i → number_in text (front ++ rest) ≡ Some i
number-front text [] rest i e = absurd (none-some i e)
number-front text (k ∷ ks) rest i e = by (bytes_eq text k) (number_in text ks) refl refl (λ j. number-front text ks rest j)
  where
    by : (t : Bool) (n : Option ℕ) → bytes_eq text k ≡ t → number_in text ks ≡ n → ((j : ℕ) → number_in text ks ≡ Some j → number_in text (ks ++ rest) ≡ Some j)
        → number_in text ((k ∷ ks) ++ rest) ≡ Some i
    by true n t h ih = rw t (rw t at e)
    by false None t h ih = absurd (none-some i (rw (t, h) at e))
    by false (Some j) t h ih = rw (t, ih j h) (rw (t, h) at e)

pub number-kept : (text : List ℕ) (front texts : List (List ℕ)) (i : ℕ) → number_in text front ≡ Some i → IsFront front texts → number_in text texts ≡ Some i
number-kept text front texts i e begins = ap (number_in text) begins.1 ∙ number-front text front begins.0 i e

-- ---- a text that is there, or is new

-- the texts of keys, one of which is put in
pub keys-with : {K : Type 0} (bytes : K → List ℕ) (keys : List K) (key : K)
    → map bytes (cond (list_any (λ k. bytes_eq (bytes key) (bytes k)) keys) keys (keys ++ key ∷ [])) ≡ with_text (map bytes keys) (bytes key)
keys-with bytes keys key = elim (cases_Bool (list_any (λ k. bytes_eq (bytes key) (bytes k)) keys)) [
  | inl there ↦ rw (any-map (bytes_eq (bytes key)) bytes keys, there) refl
  | inr new ↦ rw (any-map (bytes_eq (bytes key)) bytes keys, new) (map-append bytes keys (key ∷ []))
]

-- and its place among them
pub key-place : {K : Type 0} (bytes : K → List ℕ) (keys : List K) (key : K)
    → number_in (bytes key) (map bytes (cond (list_any (λ k. bytes_eq (bytes key) (bytes k)) keys) keys (keys ++ key ∷ []))) ≡ Some (position_or_len (λ k. bytes_eq (bytes key) (bytes k)) keys)
key-place bytes [] key = rw (name-itself (bytes key)) refl
key-place {K} bytes (k ∷ ks) key = by (bytes_eq (bytes key) (bytes k)) (list_any (λ j. bytes_eq (bytes key) (bytes j)) ks) refl refl (key-place bytes ks key)
  where
    place : List K → ℕ
    place xs = position_or_len (λ j. bytes_eq (bytes key) (bytes j)) xs

    next : 1 + place ks ≡ suc (place ks)
    next = omega arith

    first : bytes_eq (bytes key) (bytes k) ≡ true → number_in (bytes key) (map bytes (k ∷ ks)) ≡ Some 0
    first e = rw e refl

    later : (rest : List K) → bytes_eq (bytes key) (bytes k) ≡ false → number_in (bytes key) (map bytes (k ∷ rest)) ≡ option_map (λ i. suc i) (number_in (bytes key) (map bytes rest))
    later rest e = rw e refl

    by : (t b : Bool) → bytes_eq (bytes key) (bytes k) ≡ t → list_any (λ j. bytes_eq (bytes key) (bytes j)) ks ≡ b
        → number_in (bytes key) (map bytes (cond (list_any (λ j. bytes_eq (bytes key) (bytes j)) ks) ks (ks ++ key ∷ []))) ≡ Some (place ks)
        → number_in (bytes key) (map bytes (cond (list_any (λ j. bytes_eq (bytes key) (bytes j)) (k ∷ ks)) (k ∷ ks) ((k ∷ ks) ++ key ∷ []))) ≡ Some (place (k ∷ ks))
    by true b t h ih = rw t (first t)
    by false true t h ih = rw (t, h) (later ks t ∙ ap (option_map (λ i. suc i)) (rw h at ih) ∙ ap Some (sym next))
    by false false t h ih = rw (t, h) (later (ks ++ key ∷ []) t ∙ ap (option_map (λ i. suc i)) (rw h at ih) ∙ ap Some (sym next))

-- ---- texts grow

pub with-first : (texts before : List (List ℕ)) (text : List ℕ) → texts ≡ first_of_each bytes_eq before → with_text texts text ≡ first_of_each bytes_eq (before ++ text ∷ [])
with-first texts before text are =
    let firsts : List (List ℕ) = first_of_each bytes_eq before in
    ap (λ ts. with_text ts text) are
    ∙ ap (λ b. cond b firsts (firsts ++ text ∷ [])) (sym (any-turned text firsts))
    ∙ sym (first-push bytes_eq names-chain before text)

pub front-same : (texts : List (List ℕ)) → IsFront texts texts
front-same texts = ([], sym (append-nil texts))

with-front : (old : List (List ℕ)) (text : List ℕ) (texts : List (List ℕ)) → IsFront (with_text old text) texts → IsFront old texts
with-front old text texts begins = by (list_any (bytes_eq text) old) refl
  where
    by : (b : Bool) → list_any (bytes_eq text) old ≡ b → IsFront old texts
    by true e = (begins.0, begins.1 ∙ ap (λ c. cond c old (old ++ text ∷ []) ++ begins.0) e)
    by false e = (text ∷ begins.0, begins.1 ∙ ap (λ c. cond c old (old ++ text ∷ []) ++ begins.0) e ∙ append_assoc old (text ∷ []) begins.0)

pub grows-one : (old new : List (List ℕ)) (text : List ℕ) → new ≡ with_text old text → Grows old new (text ∷ [])
grows-one old new text is = record {
  front = λ texts begins. with-front old text texts (subst (λ ts. IsFront ts texts) is begins);
  firsts = λ before are. is ∙ with-first old before text are;
}

pub grows-none : (texts : List (List ℕ)) → Grows texts texts []
grows-none texts = record {
  front = λ others begins. begins;
  firsts = λ before are. are ∙ ap (first_of_each bytes_eq) (sym (append-nil before));
}

pub grows-more : (a b c xs ys : List (List ℕ)) → Grows a b xs → Grows b c ys → Grows a c (xs ++ ys)
grows-more a b c xs ys first next = record {
  front = λ texts begins. first.front texts (next.front texts begins);
  firsts = λ before are. next.firsts (before ++ xs) (first.firsts before are) ∙ ap (first_of_each bytes_eq) (append_assoc before xs ys);
}
