-- Where fields are looked for by their slots: those that are passed over have other names.
use Rattle.std.proofs.Common.{arith, ◌≡◌, ℕ, ◌+◌, ◌-◌, ◌<◌, ◌≤◌, Bool, true, false, ◌||◌, List, [], ◌∷◌, length, drop, map, get_or, refl, sym, ap, ◌∙◌}
use Prim.Native.Nat.{suc, zero}
use Rattle.std.specs.Prelude.{slice_set}
use Rattle.std.proofs.Math.ListN.{replicate}
use Rattle.std.specs.Str.{str_to_ascii_lowercase}
use Rattle.std.proofs.lemmas.Bool.{or_right}
use Rattle.std.proofs.lemmas.List.{at_drop_all, at_drop_more, get_or-set_same, drop-drop, drop-map}
use Rattle.std.proofs.lemmas.Slice.Eq.{bytes_eq-Decides}
use Rattle.deb_control.specs.declared.field.Field.{Field}
use Rattle.deb_control.specs.Fields.{Entry, field_value, has_name, has_repeat, same_name}
use Rattle.deb_control.specs.Slots.{AreFirsts, name_slot, slot_in_lower}
use Rattle.deb_control.specs.Stanzas.{entry_of}
use Rattle.deb_control.proofs.RepeatLemmas.{has_repeat-drop}

-- names that agree have one slot
same_slot : (a b : List ℕ) → same_name a b ≡ true → name_slot a ≡ name_slot b
same_slot a b same = ap slot_in_lower ((bytes_eq-Decides (str_to_ascii_lowercase a) (str_to_ascii_lowercase b)).0 same)

-- ---- what is looked for

other_name : (firsts : List ℕ) (name : List ℕ) (i : ℕ) (field : Entry) → get_or firsts (name_slot field.name) 0 ≤ i → i < get_or firsts (name_slot name) 0 → same_name field.name name ≡ false
other_name firsts name i field low high = decided (same_name field.name name) refl where
  decided : (same : Bool) → same_name field.name name ≡ same → same ≡ false
  decided false is = refl
  decided true is =
      let one : get_or firsts (name_slot field.name) 0 ≡ get_or firsts (name_slot name) 0 = ap (λ (slot : ℕ). get_or firsts slot 0) (same_slot field.name name is) in
      absurd (omega (arith, one))

module _ (firsts : List ℕ) (name : List ℕ) where
  abbrev named : List Entry → Bool
  named fields = has_name name fields

  pub passed_named : (n i : ℕ) (fields : List Entry) → AreFirsts firsts i fields → (0 < n → i + n ≤ get_or firsts (name_slot name) 0) → named (drop n fields) ≡ named fields
  passed_named zero i fields are low = refl
  passed_named (suc n) i [] are low = refl
  passed_named (suc n) i (field ∷ fields) are low =
      let before : i + suc n ≤ get_or firsts (name_slot name) 0 = low (omega arith) in
      rw (other_name firsts name i field are.0 (omega (arith, before))) (passed_named n (i + 1) fields are.1 (λ _. omega (arith, before)))

  pub passed_value : (n i : ℕ) (fields : List Entry) → AreFirsts firsts i fields → (0 < n → i + n ≤ get_or firsts (name_slot name) 0) → field_value (drop n fields) name ≡ field_value fields name
  unfolding field_value
  passed_value zero i fields are low = refl
  passed_value (suc n) i [] are low = refl
  passed_value (suc n) i (field ∷ fields) are low =
      let before : i + suc n ≤ get_or firsts (name_slot name) 0 = low (omega arith) in
      rw (other_name firsts name i field are.0 (omega (arith, before))) (passed_value n (i + 1) fields are.1 (λ _. omega (arith, before)))

  from_place : (fields : List Field) (start place : ℕ) → start ≤ place → map entry_of (drop place fields) ≡ drop (place - start) (map entry_of (drop start fields))
  from_place fields start place above =
      let joined : start + (place - start) ≡ place = omega arith in
      ap (λ (n : ℕ). map entry_of (drop n fields)) (sym joined) ∙ ap (λ (fs : List Field). map entry_of fs) (sym (drop-drop (place - start) start fields)) ∙ sym (drop-map entry_of (place - start) (drop start fields))

  module _ (fields : List Field) (start place : ℕ) (above : start ≤ place) (low : start < place → place ≤ get_or firsts (name_slot name) 0) (are : AreFirsts firsts start (map entry_of (drop start fields))) where
    small : 0 < place - start → start + (place - start) ≤ get_or firsts (name_slot name) 0
    small some = let high = low (omega arith) in omega (arith, high)

    pub from_place_named : named (map entry_of (drop place fields)) ≡ named (map entry_of (drop start fields))
    from_place_named = ap named (from_place fields start place above) ∙ passed_named (place - start) start (map entry_of (drop start fields)) are small

    pub from_place_value : field_value (map entry_of (drop place fields)) name ≡ field_value (map entry_of (drop start fields)) name
    from_place_value = ap (λ (es : List Entry). field_value es name) (from_place fields start place above) ∙ passed_value (place - start) start (map entry_of (drop start fields)) are small

-- ---- what is put down

abbrev zeros : ℕ → List ℕ
zeros n = replicate n 0

get_or-zeros : (n slot : ℕ) → get_or (zeros n) slot 0 ≡ 0
get_or-zeros zero slot = refl
get_or-zeros (suc n) zero = refl
get_or-zeros (suc n) (suc slot) = get_or-zeros n slot

-- before place 0 there is no field
pub zeros_first : (n i : ℕ) (fields : List Entry) → AreFirsts (zeros n) i fields
zeros_first n i [] = tt
zeros_first n i (field ∷ fields) = (omega (arith, get_or-zeros n (name_slot field.name)), zeros_first n (i + 1) fields)

pub none_first : (firsts : List ℕ) (fields : List Field) (i : ℕ) → length fields ≤ i → AreFirsts firsts i (map entry_of (drop i fields))
none_first firsts fields i past = rw (at_drop_all (λ fs. map entry_of fs) fields i past) tt

lower_first : (firsts : List ℕ) (slot other place i : ℕ) → place ≤ i → get_or firsts other 0 ≤ i → get_or (slice_set firsts slot place) other 0 ≤ i
lower_first [] slot other place i low is = is
lower_first (f ∷ fs) zero zero place i low is = low
lower_first (f ∷ fs) zero (suc other) place i low is = is
lower_first (f ∷ fs) (suc slot) zero place i low is = is
lower_first (f ∷ fs) (suc slot) (suc other) place i low is = lower_first fs slot other place i low is

still_first : (firsts : List ℕ) (slot place i : ℕ) (fields : List Entry) → place ≤ i → AreFirsts firsts i fields → AreFirsts (slice_set firsts slot place) i fields
still_first firsts slot place i [] low are = tt
still_first firsts slot place i (field ∷ fields) low are =
    (lower_first firsts slot (name_slot field.name) place i low are.0, still_first firsts slot place (i + 1) fields (omega arith) are.1)

pub put_first : (firsts : List ℕ) (slot place : ℕ) (fields : List Field) (field : Field) → place < length fields → field ≡ get_or fields place field → slot ≡ name_slot field.name.now → slot < length firsts
    → AreFirsts firsts (place + 1) (map entry_of (drop (place + 1) fields)) → AreFirsts (slice_set firsts slot place) place (map entry_of (drop place fields))
put_first firsts slot place fields field within at is there are =
    let first = at_drop_more (λ fs. map entry_of fs) fields place field within
    ∙ ap (λ (f : Field). entry_of f ∷ map entry_of (drop (place + 1) fields)) (sym at) in
    let own : get_or (slice_set firsts slot place) (name_slot field.name.now) 0 ≡ place = ap (λ (k : ℕ). get_or (slice_set firsts slot place) k 0) (sym is) ∙ get_or-set_same firsts slot place 0 there in
    rw first (omega (arith, own), still_first firsts slot place (place + 1) (map entry_of (drop (place + 1) fields)) (omega arith) are)

-- ---- names that come twice

-- what repeats from some field on repeats among all
repeats_above : (fields : List Field) (i : ℕ) → has_repeat (map entry_of (drop i fields)) ≡ true → has_repeat (map entry_of fields) ≡ true
unfolding has_repeat
repeats_above fields zero is = is
repeats_above [] (suc i) is = is
repeats_above (f ∷ fs) (suc i) is = or_right _ _ (repeats_above fs i is)

module _ (fields : List Field) (i : ℕ) (field : Field) where
  -- a field from i on has the name of the one before
  abbrev pub agrees : Bool
  agrees = has_name field.name.now (map entry_of (drop i fields))

  step : 0 < i → i ≤ length fields → field ≡ get_or fields (i - 1) field
      → has_repeat (map entry_of (drop (i - 1) fields)) ≡ (agrees || has_repeat (map entry_of (drop i fields)))
  step positive within at =
      let next : i - 1 + 1 ≡ i = omega arith in
      has_repeat-drop fields (i - 1) field (omega arith) at ∙ ap (λ (k : ℕ). has_name field.name.now (map entry_of (drop k fields)) || has_repeat (map entry_of (drop k fields))) next

  pub step_found : 0 < i → i ≤ length fields → field ≡ get_or fields (i - 1) field → agrees ≡ true → has_repeat (map entry_of fields) ≡ true
  step_found positive within at found =
      repeats_above fields (i - 1) (step positive within at ∙ ap (λ (b : Bool). b || has_repeat (map entry_of (drop i fields))) found)

  pub step_none : 0 < i → i ≤ length fields → field ≡ get_or fields (i - 1) field → agrees ≡ false → has_repeat (map entry_of (drop i fields)) ≡ false
      → has_repeat (map entry_of (drop (i - 1) fields)) ≡ false
  step_none positive within at found none =
      step positive within at ∙ ap (λ (b : Bool). b || has_repeat (map entry_of (drop i fields))) found ∙ none
