-- The values of fields of four different names are together no longer than all values.
use Rattle.std.proofs.Common.{◌≡◌, ◌≤◌, ◌+◌, ℕ, Bool, true, false, cond, List, [], ◌∷◌, length, Option, Some, None, unwrap_or, refl, sym, ap, ◌∙◌, arith}
use Rattle.std.specs.List.{find, sum_by}
use Rattle.std.specs.Option.{option_and_then}
use Rattle.std.specs.Str.{bytes_eq, str_to_ascii_lowercase}
use Rattle.std.proofs.lemmas.List.Sums.{sum_by-cons}
use Rattle.std.proofs.lemmas.Bool.{false≢true}
use Rattle.deb_control.specs.Lines.{is_empty}
use Rattle.deb_control.specs.Fields.{Entry, field_value, same_name}
use Rattle.deb_index.proofs.FirstLemmas.{same-name}

abbrev pub text_length : List Entry → List ℕ → ℕ
text_length fields name = length (unwrap_or (field_value fields name) [])

abbrev pub shown : Option Entry → Option (List ℕ)
shown found = option_and_then (λ field. cond (is_empty field.value) None (Some field.value)) found

taken : (e : Bool) (value : List ℕ) → length (unwrap_or (cond e None (Some value)) []) ≤ length value
taken e value = grind arith

first-or : (t : Bool) (field : Entry) (rest : Option Entry) → length (unwrap_or (shown (cond t (Some field) rest)) []) ≤ cond t (length field.value) (length (unwrap_or (shown rest) []))
first-or true field rest = taken (is_empty field.value) field.value
first-or false field rest = omega arith

step : (field : Entry) (fields : List Entry) (name : List ℕ) → text_length (field ∷ fields) name ≤ cond (same_name field.name name) (length field.value) (text_length fields name)
unfolding field_value
step field fields name = first-or (same_name field.name name) field (find (λ other. same_name other.name name) fields)

no-fields : (name : List ℕ) → text_length [] name ≡ 0
unfolding field_value
no-fields name = refl

one-name : (x a b : List ℕ) → same_name a b ≡ false → same_name x a ≡ true → same_name x b ≡ true → ⊥
one-name x a b apart is_a is_b =
    let lower_a = same-name (str_to_ascii_lowercase x) (str_to_ascii_lowercase a) is_a in
    false≢true (sym apart ∙ ap (λ bytes. bytes_eq bytes (str_to_ascii_lowercase b)) (sym lower_a) ∙ is_b)

module _ (a b c d : List ℕ) (ab : same_name a b ≡ false) (ac : same_name a c ≡ false) (ad : same_name a d ≡ false) (bc : same_name b c ≡ false) (bd : same_name b d ≡ false) (cd : same_name c d ≡ false) where
  abbrev four : List Entry → ℕ
  four fields = text_length fields a + text_length fields b + text_length fields c + text_length fields d

  one-more : (p q r s : Bool) (here ta tb tc td na nb nc nd : ℕ) → (p ≡ true → q ≡ true → ⊥) → (p ≡ true → r ≡ true → ⊥) → (p ≡ true → s ≡ true → ⊥) → (q ≡ true → r ≡ true → ⊥) → (q ≡ true → s ≡ true → ⊥)
      → (r ≡ true → s ≡ true → ⊥) → na ≤ cond p here ta → nb ≤ cond q here tb → nc ≤ cond r here tc → nd ≤ cond s here td → na + nb + nc + nd ≤ here + (ta + tb + tc + td)
  one-more p q r s here ta tb tc td na nb nc nd pq pr ps qr qs rs ha hb hc hd = grind (arith, pq, pr, ps, qr, qs, rs, ha, hb, hc, hd)

  pub four-fit : (fields : List Entry) → four fields ≤ sum_by (λ entry. length entry.value) fields
  four-fit [] = omega (arith, no-fields a, no-fields b, no-fields c, no-fields d)
  four-fit (field ∷ fields) =
      let x = field.name in
      let more = one-more (same_name x a) (same_name x b) (same_name x c) (same_name x d) (length field.value) (text_length fields a) (text_length fields b) (text_length fields c) (text_length fields d)
      (text_length (field ∷ fields) a) (text_length (field ∷ fields) b) (text_length (field ∷ fields) c) (text_length (field ∷ fields) d)
      (one-name x a b ab) (one-name x a c ac) (one-name x a d ad) (one-name x b c bc) (one-name x b d bd) (one-name x c d cd)
      (step field fields a) (step field fields b) (step field fields c) (step field fields d) in
      omega (arith, more, four-fit fields, sum_by-cons (λ (entry : Entry). length entry.value) field fields)
