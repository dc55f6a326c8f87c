-- The numbers of names when one name more is put down.
use Rattle.std.proofs.Common.{◌≡◌, ℕ, true, false, cond, List, [], ◌∷◌, ◌++◌, length, nat_eq, Option, Some, None, Vec, Global, refl, ◌∙◌, subst, arith}
use Rattle.std.specs.Cmp.Lexicographic.{nat_list_eq_equiv}
use Rattle.std.specs.HashMap.{HashMap, UpdatesBy, get, get_by}
use Rattle.std.specs.Map.{KeepsOthers}
use Rattle.std.specs.Option.{is_some}
use Rattle.std.specs.Str.{bytes_eq}
use Rattle.std.proofs.lemmas.List.{get_or_append_left, get_or_push, length-append}
use Rattle.deb_index.specs.Tables.{AreNumbered, hash_of, number_in}
use Rattle.deb_index.proofs.FirstLemmas.{other-name, same-name}
use Rattle.deb_index.proofs.NameLemmas.{number-last}

-- another name keeps its number
number-other : (q name : List ℕ) → bytes_eq q name ≡ false → (ks : List (List ℕ)) → number_in q (ks ++ name ∷ []) ≡ number_in q ks
number-other q name apart [] = rw apart refl
number-other q name apart (k ∷ ks) = grind (arith, number-other q name apart ks)

-- names of two hashes are two
hashes-apart : (q name : List ℕ) → nat_eq (hash_of name) (hash_of q) ≡ false → bytes_eq q name ≡ false
hashes-apart q name e = grind (arith, e, same-name q name)

-- what a map by names has once one of them is put in
module _ (name : List ℕ) {X S : Type 0} (old new : HashMap (Vec ℕ Global) X S) (w : Option X) (h : UpdatesBy (λ x y. bytes_eq x.items y.items) (λ k. bytes_eq name k.items) old new w) where
  others-stay : (q : List ℕ) → bytes_eq name q ≡ false → get_by (λ k. bytes_eq q k.items) new ≡ get_by (λ k. bytes_eq q k.items) old
  unfolding KeepsOthers
  others-stay q apart = h.3 (λ k. bytes_eq q k.items) (λ x y. nat_list_eq_equiv.congr q x.items y.items)
      (λ k same. subst (λ l. bytes_eq q l ≡ false) (same-name name k.items same) (other-name name q apart))

  pub updates-names : (q : List ℕ) → get_by (λ k. bytes_eq q k.items) new ≡ cond (bytes_eq name q) w (get_by (λ k. bytes_eq q k.items) old)
  updates-names q = grind (arith, h.1, same-name name q, others-stay q)

module _ {S T F : Type 0} {names : List (List ℕ)} {firsts : HashMap ℕ ℕ S} {others : HashMap (Vec ℕ Global) ℕ T} (old : AreNumbered names firsts others) (name : List ℕ)
    (new : number_in name names ≡ None) where
  -- a name whose hash no other has
  pub first-more : (more : HashMap ℕ ℕ F) → is_some (get nat_eq firsts (hash_of name)) ≡ false
      → ((h : ℕ) → get nat_eq more h ≡ cond (nat_eq (hash_of name) h) (Some (length names)) (get nat_eq firsts h)) → AreNumbered (names ++ name ∷ []) more others
  first-more more absent at = record {
    unknown = λ q none. (
      grind (arith, none, at (hash_of q), old.unknown q, hashes-apart q name, λ (e : bytes_eq q name ≡ false). number-other q name e names),
      grind (arith, none, at (hash_of q), old.unknown q),
    );
    within = λ q i some. grind (arith, some, at (hash_of q), old.within q i, length-append names (name ∷ []));
    known = λ q i some. grind (
      arith,
      some,
      absent,
      at (hash_of q),
      old.within q i,
      old.known q i,
      old.unknown q,
      same-name q name,
      hashes-apart q name,
      λ (e : bytes_eq q name ≡ false). number-other q name e names,
      number-last name names new,
      get_or_push names name [] i,
      get_or_append_left names (name ∷ []) [] i,
    );
  }

  -- a name whose hash an earlier one has
  pub other-more : (more : HashMap (Vec ℕ Global) ℕ F) → is_some (get nat_eq firsts (hash_of name)) ≡ true
      → ((q : List ℕ) → get_by (λ key. bytes_eq q key.items) more ≡ cond (bytes_eq name q) (Some (length names)) (get_by (λ key. bytes_eq q key.items) others)) → AreNumbered (names ++ name ∷ []) firsts more
  other-more more taken at = record {
    unknown = λ q none.
        let both = old.unknown q none in
        let apart : bytes_eq name q ≡ false = grind (arith, none, taken, same-name name q) in
        (number-other q name (other-name name q apart) names ∙ both.0, at q ∙ rw apart both.1);
    within = λ q i some. omega (arith, old.within q i some, length-append names (name ∷ []));
    known = λ q i some. grind (
      arith,
      at q,
      new,
      old.known q i some,
      same-name name q,
      other-name name q,
      λ (e : bytes_eq q name ≡ false). number-other q name e names,
      number-last name names new,
      get_or_append_left names (name ∷ []) [] i (old.within q i some),
    );
  }
