-- Names seen before, kept in order and in lower case.
use Rattle.std.proofs.Common.{◌≡◌, ℕ, ◌+◌, ◌<◌, ◌≤◌, Bool, true, false, not, ◌||◌, List, [], ◌∷◌, length, drop, get_or, map, refl, sym, ap, ◌∙◌}
use Rattle.std.specs.declared.cmp.Ordering.{Ordering}
use Rattle.std.specs.declared.cmp.Ordering.TheVariants.{Less, Equal, Greater}
use Rattle.std.specs.Global.{Vec}
use Rattle.std.specs.List.{list_any}
use Rattle.std.specs.Str.{str_to_ascii_lowercase, bytes_eq}
use Rattle.std.specs.Ordering.{match_ordering, nat_cmp, is_eq}
use Rattle.std.specs.Cmp.Lexicographic.{slice_cmp}
use Rattle.std.specs.BTreeSet.{insert_key}
use Rattle.std.proofs.lemmas.List.{at_drop_more, at_drop_all}
use Rattle.std.proofs.lemmas.Map.Lookups.{exact_bytes}
use Rattle.std.proofs.lemmas.Map.Text.{is_eq-slice_cmp}
use Rattle.deb_control.specs.declared.field.Field.{Field}
use Rattle.deb_control.specs.Fields.{Entry, has_repeat, same_name}
use Rattle.deb_control.specs.Stanzas.{entry_of}
use Rattle.deb_control.proofs.ListLemmas.{any-alike, any-never, any-either, or-exchange}

abbrev pub order : Vec ℕ → Vec ℕ → Ordering
order a b = slice_cmp nat_cmp a.items b.items

abbrev pub is_seen : List (Vec ℕ) → List ℕ → Bool
is_seen seen name = list_any (λ known. bytes_eq (str_to_ascii_lowercase name) known.items) seen

-- a name in lower case is among them where the name was seen
pub is_seen-lower : (seen : List (Vec ℕ)) (name : List ℕ) (lower : Vec ℕ) → lower.items ≡ str_to_ascii_lowercase name → list_any (λ known. is_eq (order lower known)) seen ≡ is_seen seen name
is_seen-lower seen name lower is =
    any-alike (λ (known : Vec ℕ). is_eq (order lower known)) (λ known. bytes_eq (str_to_ascii_lowercase name) known.items)
    (λ known. is_eq-slice_cmp lower.items known.items ∙ ap (λ (bytes : List ℕ). bytes_eq bytes known.items) is) seen

-- one name more was seen
is_seen-more : (seen : List (Vec ℕ)) (lower : Vec ℕ) (name : List ℕ) → is_seen (insert_key order seen lower) name ≡ (bytes_eq (str_to_ascii_lowercase name) lower.items || is_seen seen name)
is_seen-more [] lower name = refl
is_seen-more (known ∷ seen) lower name = placed (order lower known) refl (is_seen-more seen lower name) where
  twice : (a b : Bool) → (a || b) ≡ (a || (a || b))
  twice true b = refl
  twice false b = refl

  placed : (o : Ordering) → order lower known ≡ o → is_seen (insert_key order seen lower) name ≡ (bytes_eq (str_to_ascii_lowercase name) lower.items || is_seen seen name)
      → is_seen (match_ordering o (lower ∷ known ∷ seen) (known ∷ seen) (known ∷ insert_key order seen lower)) name ≡ (bytes_eq (str_to_ascii_lowercase name) lower.items || is_seen (known ∷ seen) name)
  placed Less e more = refl
  placed Equal e more =
      let same : lower.items ≡ known.items = exact_bytes lower.items known.items e in
      rw same (twice (bytes_eq (str_to_ascii_lowercase name) known.items) (is_seen seen name))
  placed Greater e more =
      ap (λ (b : Bool). bytes_eq (str_to_ascii_lowercase name) known.items || b) more
      ∙ or-exchange (bytes_eq (str_to_ascii_lowercase name) known.items) (bytes_eq (str_to_ascii_lowercase name) lower.items) (is_seen seen name)

-- some field has a name that was seen, or that of a field before it
abbrev pub repeats : List (Vec ℕ) → List Entry → Bool
repeats seen fields = list_any (λ entry. is_seen seen entry.name) fields || has_repeat fields

pub repeats-none : (fields : List Entry) → repeats [] fields ≡ has_repeat fields
repeats-none fields = ap (λ (b : Bool). b || has_repeat fields) (any-never fields)

repeats-found : (seen : List (Vec ℕ)) (field : Entry) (more : List Entry) → is_seen seen field.name ≡ true → repeats seen (field ∷ more) ≡ true
repeats-found seen field more found = rw found refl

repeats-new : (seen : List (Vec ℕ)) (lower : Vec ℕ) (field : Entry) (more : List Entry) → lower.items ≡ str_to_ascii_lowercase field.name → is_seen seen field.name ≡ false
    → repeats seen (field ∷ more) ≡ repeats (insert_key order seen lower) more
unfolding has_repeat
repeats-new seen lower field more is new =
    let same : Entry → Bool = λ entry. same_name entry.name field.name in
    let known : Entry → Bool = λ entry. is_seen seen entry.name in
    let first : repeats seen (field ∷ more) ≡ (list_any known more || (list_any same more || has_repeat more)) = rw new refl in
    let step : (entry : Entry) → is_seen (insert_key order seen lower) entry.name ≡ (same entry || known entry) =
    λ entry. is_seen-more seen lower entry.name ∙ ap (λ (bytes : List ℕ). bytes_eq (str_to_ascii_lowercase entry.name) bytes || known entry) is in
    let behind : list_any (λ (entry : Entry). is_seen (insert_key order seen lower) entry.name) more ≡ (list_any same more || list_any known more) =
    any-alike (λ (entry : Entry). is_seen (insert_key order seen lower) entry.name) (λ entry. same entry || known entry) step more ∙ any-either same known more in
    first ∙ moved (list_any known more) (list_any same more) (has_repeat more) ∙ ap (λ (b : Bool). b || has_repeat more) (sym behind)
  where
    moved : (a b c : Bool) → (a || (b || c)) ≡ ((b || a) || c)
    moved true true c = refl
    moved true false c = refl
    moved false true c = refl
    moved false false c = refl

module _ (seen : List (Vec ℕ)) (fields : List Field) (i : ℕ) (field : Field) (lower : Vec ℕ) where
  step : i < length fields → field ≡ get_or fields i field → repeats seen (map entry_of (drop i fields)) ≡ repeats seen (entry_of field ∷ map entry_of (drop (i + 1) fields))
  step lt at =
      at_drop_more (λ fs. repeats seen (map entry_of fs)) fields i field lt
      ∙ ap (λ (f : Field). repeats seen (entry_of f ∷ map entry_of (drop (i + 1) fields))) (sym at)

  pub repeats-drop_found : i < length fields → field ≡ get_or fields i field → lower.items ≡ str_to_ascii_lowercase field.name.now → false ≡ not (list_any (λ known. is_eq (order lower known)) seen)
      → repeats seen (map entry_of (drop i fields)) ≡ true
  repeats-drop_found lt at is old =
      step lt at ∙ repeats-found seen (entry_of field) (map entry_of (drop (i + 1) fields)) (sym (is_seen-lower seen field.name.now lower is) ∙ turned (list_any (λ known. is_eq (order lower known)) seen) old)
    where
      turned : (b : Bool) → false ≡ not b → b ≡ true
      turned true e = refl
      turned false e = absurd cc

  pub repeats-drop_new : i < length fields → field ≡ get_or fields i field → lower.items ≡ str_to_ascii_lowercase field.name.now → true ≡ not (list_any (λ known. is_eq (order lower known)) seen)
      → repeats seen (map entry_of (drop i fields)) ≡ repeats (insert_key order seen lower) (map entry_of (drop (i + 1) fields))
  repeats-drop_new lt at is new =
      step lt at ∙ repeats-new seen lower (entry_of field) (map entry_of (drop (i + 1) fields)) is (sym (is_seen-lower seen field.name.now lower is) ∙ turned (list_any (λ known. is_eq (order lower known)) seen) new)
    where
      turned : (b : Bool) → true ≡ not b → b ≡ false
      turned true e = absurd cc
      turned false e = refl

pub repeats-end : (seen : List (Vec ℕ)) (fields : List Field) (i : ℕ) → length fields ≤ i → repeats seen (map entry_of (drop i fields)) ≡ false
unfolding has_repeat
repeats-end seen fields i past = at_drop_all (λ fs. repeats seen (map entry_of fs)) fields i past
