-- How many bytes stanzas and values take, against the text that they stand in.
use Rattle.std.proofs.Common.{◌≡◌, ℕ, suc, ◌+◌, ◌<◌, ◌≤◌, Bool, true, false, cond, not, List, [], ◌∷◌, ◌++◌, Ok, Err, length, reverse, nat_eq, refl, ap, arith, inl, inr, length-append, length-drop}
use Rattle.std.specs.List.{All, sum_by, slice_split, onto_first, filter, flat_map, take_while, before_first, after_first, position_or_len}
use Rattle.std.proofs.lemmas.List.{length-reverse}
use Rattle.std.proofs.lemmas.List.Sums.{sum_by-cons, get_or-le-sum_by}
use Rattle.std.proofs.lemmas.Bool.{cases_Bool}
use Rattle.deb_control.specs.declared.error.ControlError.TheVariants.{BadLine, RepeatedField}
use Rattle.deb_control.specs.Lines.{is_empty, is_blank, is_comment, is_continuation, without_empty_end, lines, content_lines}
use Rattle.deb_control.specs.Fields.{Entry, is_colon, trim_start, trim, value_of, has_bad_line, fields_of, has_repeat}
use Rattle.deb_control.specs.Stanzas.{◌>>=◌, size_of, runs, stanzas_of, good_fields, read_stanza}
use Rattle.deb_control.proofs.ListLemmas.{take_while-yes, take_while-no}
use Rattle.deb_control.proofs.ValueLemmas.{trim_start-length}

-- ---- lists of lists

abbrev size : {A : Type 0} → List (List A) → ℕ
size parts = sum_by (λ part. length part + 1) parts

size-cons : {A : Type 0} (part : List A) (parts : List (List A)) → size (part ∷ parts) ≡ suc (length part + size parts)
size-cons part parts = let k = sum_by-cons (λ part. length part + 1) part parts in omega (arith, k)

size-onto_some : {A : Type 0} (x : A) (part : List A) (parts : List (List A)) → size (onto_first x (part ∷ parts)) ≡ suc (size (part ∷ parts))
size-onto_some x part parts = omega (arith, size-cons (x ∷ part) parts, size-cons part parts)

size-filter : {A : Type 0} (p : List A → Bool) (parts : List (List A)) → size (filter p parts) ≤ size parts
size-filter p [] = omega arith
size-filter p (part ∷ parts) = elim (p part) as (λ v. size (cond v (part ∷ filter p parts) (filter p parts)) ≤ size (part ∷ parts)) [
  | true ↦ omega (arith, size-filter p parts, size-cons part parts, size-cons part (filter p parts))
  | false ↦ omega (arith, size-filter p parts, size-cons part parts)
]

-- ---- the lines of a text

size-ended : (parts : List (List ℕ)) → size (without_empty_end parts) ≤ size parts
size-ended [] = omega arith
size-ended (part ∷ []) = elim (is_empty part) as (λ v. size (cond v [] (part ∷ [])) ≤ size (part ∷ [])) [
  | true ↦ omega arith
  | false ↦ omega arith
]
size-ended (part ∷ next ∷ parts) = omega (arith, size-cons part (next ∷ parts), size-cons part (without_empty_end (next ∷ parts)), size-ended (next ∷ parts))

size-split : (p : ℕ → Bool) (text : List ℕ) → (size (slice_split p text) ≡ length text + 1) × (0 < length (slice_split p text))
size-split p [] = (refl, omega arith)
size-split p (b ∷ text) = stepped (p b) (slice_split p text) (size-split p text).0 (size-split p text).1 where
  stepped : (v : Bool) (parts : List (List ℕ)) → size parts ≡ length text + 1 → 0 < length parts
      → (size (cond v ([] ∷ parts) (onto_first b parts)) ≡ length (b ∷ text) + 1) × (0 < length (cond v ([] ∷ parts) (onto_first b parts)))
  stepped v [] e some = absurd (omega arith)
  stepped true (part ∷ parts) e some = (omega (arith, size-cons [] (part ∷ parts), e), omega arith)
  stepped false (part ∷ parts) e some = (omega (arith, size-onto_some b part parts, e), omega arith)

size-lines : (text : List ℕ) → size (lines text) ≤ length text + 1
unfolding lines
size-lines text = omega (arith, size-ended (slice_split (λ b. nat_eq b 10) text), (size-split (λ b. nat_eq b 10) text).0)

size-content_lines : (text : List ℕ) → size (content_lines text) ≤ length text + 1
unfolding content_lines
size-content_lines text = omega (arith, size-filter (λ (line : List ℕ). not (is_comment line)) (lines text), size-lines text)

-- ---- the stanzas of a text

abbrev all_sizes : List (List (List ℕ)) → ℕ
all_sizes stanzas = sum_by size stanzas

all_sizes-cons : (stanza : List (List ℕ)) (stanzas : List (List (List ℕ))) → all_sizes (stanza ∷ stanzas) ≡ size stanza + all_sizes stanzas
all_sizes-cons stanza stanzas = sum_by-cons size stanza stanzas

all_sizes-onto : (line : List ℕ) (stanzas : List (List (List ℕ))) → all_sizes (onto_first line stanzas) ≡ suc (length line + all_sizes stanzas)
all_sizes-onto line [] = omega arith
all_sizes-onto line (stanza ∷ stanzas) = omega (arith, all_sizes-cons (line ∷ stanza) stanzas, all_sizes-cons stanza stanzas, size-cons line stanza)

all_sizes-filter : (p : List (List ℕ) → Bool) (stanzas : List (List (List ℕ))) → all_sizes (filter p stanzas) ≤ all_sizes stanzas
all_sizes-filter p [] = omega arith
all_sizes-filter p (stanza ∷ stanzas) = elim (p stanza) as (λ v. all_sizes (cond v (stanza ∷ filter p stanzas) (filter p stanzas)) ≤ all_sizes (stanza ∷ stanzas)) [
  | true ↦ omega (arith, all_sizes-filter p stanzas, all_sizes-cons stanza stanzas, all_sizes-cons stanza (filter p stanzas))
  | false ↦ omega (arith, all_sizes-filter p stanzas, all_sizes-cons stanza stanzas)
]

all_sizes-split : (p : List ℕ → Bool) (lines : List (List ℕ)) → all_sizes (slice_split p lines) ≤ size lines
all_sizes-split p [] = omega arith
all_sizes-split p (line ∷ more) = elim (p line) as (λ v. all_sizes (cond v ([] ∷ slice_split p more) (onto_first line (slice_split p more))) ≤ size (line ∷ more)) [
  | true ↦ omega (arith, all_sizes-split p more, all_sizes-cons [] (slice_split p more), size-cons line more)
  | false ↦ omega (arith, all_sizes-split p more, all_sizes-onto line (slice_split p more), size-cons line more)
]

all_sizes-stanzas_of : (text : List ℕ) → all_sizes (stanzas_of text) ≤ length text + 1
unfolding stanzas_of runs
all_sizes-stanzas_of text =
    omega (arith, all_sizes-filter (λ (run : List (List ℕ)). not (is_empty run)) (slice_split is_blank (content_lines text)), all_sizes-split is_blank (content_lines text), size-content_lines text)

-- all stanzas together take no more bytes than the text, with a line feed behind its last line
pub stanza-sizes : (text : List ℕ) → sum_by size_of (stanzas_of text) ≤ length text + 1
unfolding size_of
stanza-sizes text = all_sizes-stanzas_of text

-- no stanza takes more bytes than the text, with a line feed behind its last line
pub stanzas-short : (text : List ℕ) → All (λ stanza. size_of stanza ≤ length text + 1) (stanzas_of text)
unfolding size_of
stanzas-short text k d within = omega (arith, get_or-le-sum_by size (stanzas_of text) k d within, all_sizes-stanzas_of text)

-- ---- the values of a stanza

trim-length : (bytes : List ℕ) → length (trim bytes) ≤ length bytes
trim-length bytes =
    let front = trim_start bytes in
    omega (arith, length-reverse (trim_start (reverse front)), trim_start-length (reverse front), length-reverse front, trim_start-length bytes)

folded-length : (continuations : List (List ℕ)) → length (flat_map (λ line. 10 ∷ line) continuations) ≡ size continuations
folded-length [] = refl
folded-length (line ∷ more) = omega (arith, length-append line (flat_map (λ line. 10 ∷ line) more), folded-length more, size-cons line more)

value-length : (start : List ℕ) (continuations : List (List ℕ)) → length (value_of start continuations) ≤ length start + size continuations
unfolding value_of
value-length start continuations =
    let folded = flat_map (λ (line : List ℕ). 10 ∷ line) continuations in
    omega (arith, trim-length (start ++ folded), length-append start folded, folded-length continuations)

abbrev value_sizes : List Entry → ℕ
value_sizes fields = sum_by (λ entry. length entry.value) fields

value_sizes-cons : (field : Entry) (fields : List Entry) → value_sizes (field ∷ fields) ≡ length field.value + value_sizes fields
value_sizes-cons field fields = sum_by-cons (λ (entry : Entry). length entry.value) field fields

fields_of-continuation : (line : List ℕ) (more : List (List ℕ)) → is_continuation line ≡ true → fields_of (line ∷ more) ≡ fields_of more
unfolding fields_of
fields_of-continuation line more is_one = rw is_one refl

fields_of-first : (line : List ℕ) (more : List (List ℕ)) → is_continuation line ≡ false
    → fields_of (line ∷ more) ≡ record { name = before_first is_colon line; value = value_of (after_first is_colon line) (take_while is_continuation more) } ∷ fields_of more
unfolding fields_of
fields_of-first line more is_none = rw is_none refl

no-values : value_sizes (fields_of []) + length (fields_of []) ≡ 0
unfolding fields_of
no-values = refl

-- the lines of a stanza have room for its values, a byte more for each, and for continuations that come first
value_sizes-fields_of : (lines : List (List ℕ)) → value_sizes (fields_of lines) + length (fields_of lines) + size (take_while is_continuation lines) ≤ size lines
value_sizes-fields_of [] = omega (arith, no-values)
value_sizes-fields_of (line ∷ more) = elim (cases_Bool (is_continuation line)) [
  | inl is_one ↦
      let taken : size (take_while is_continuation (line ∷ more)) ≡ size (line ∷ take_while is_continuation more) = ap size (take_while-yes is_continuation line more is_one) in
      let same = fields_of-continuation line more is_one in
      let fields : value_sizes (fields_of (line ∷ more)) ≡ value_sizes (fields_of more) = ap value_sizes same in
      let count : length (fields_of (line ∷ more)) ≡ length (fields_of more) = ap (λ (es : List Entry). length es) same in
      omega (arith, value_sizes-fields_of more, size-cons line more, taken, fields, count, size-cons line (take_while is_continuation more))
  | inr is_none ↦
      let start = after_first is_colon line in
      let field : Entry = record { name = before_first is_colon line; value = value_of start (take_while is_continuation more) } in
      let value : length field.value ≤ length start + size (take_while is_continuation more) = value-length start (take_while is_continuation more) in
      let behind : length start ≤ length line = omega (arith, length-drop (position_or_len is_colon line + 1) line) in
      let none : size (take_while is_continuation (line ∷ more)) ≡ 0 = ap size (take_while-no is_continuation line more is_none) in
      let same = fields_of-first line more is_none in
      let fields : value_sizes (fields_of (line ∷ more)) ≡ value_sizes (field ∷ fields_of more) = ap value_sizes same in
      let count : length (fields_of (line ∷ more)) ≡ suc (length (fields_of more)) = ap (λ (es : List Entry). length es) same in
      omega (arith, value_sizes-fields_of more, size-cons line more, none, fields, count, value_sizes-cons field (fields_of more), value, behind)
]

-- what a stanza reads as are its fields
read-is : (n : ℕ) (stanza : List (List ℕ)) (fields : List Entry) → read_stanza n stanza ≡ Ok fields → fields ≡ fields_of stanza
unfolding read_stanza good_fields
read-is n stanza fields e = checked (has_bad_line stanza) (has_repeat (fields_of stanza)) e where
  checked : (bad repeated : Bool) → (cond bad (Err (BadLine n)) (Ok (fields_of stanza)) >>= λ found. cond (has_repeat found) (Err (RepeatedField n)) (Ok found)) ≡ Ok fields → fields ≡ fields_of stanza
  checked true repeated h = absurd cc
  checked false repeated h = kept (has_repeat (fields_of stanza)) h where
    kept : (r : Bool) → cond r (Err (RepeatedField n)) (Ok (fields_of stanza)) ≡ Ok fields → fields ≡ fields_of stanza
    kept true k = absurd cc
    kept false k = cc

-- no value is longer than its stanza
pub values-short : (n : ℕ) (stanza : List (List ℕ)) (fields : List Entry) → read_stanza n stanza ≡ Ok fields → All (λ entry. length entry.value ≤ size_of stanza) fields
unfolding size_of
values-short n stanza fields e k d within =
    let is = read-is n stanza fields e in
    omega (arith, get_or-le-sum_by (λ (entry : Entry). length entry.value) fields k d within, ap value_sizes is, value_sizes-fields_of stanza)

-- all values of a stanza together, with a byte more for each, are no longer than the stanza
pub values-fit : (n : ℕ) (stanza : List (List ℕ)) (fields : List Entry) → read_stanza n stanza ≡ Ok fields → sum_by (λ entry. length entry.value) fields + length fields ≤ size_of stanza
unfolding size_of
values-fit n stanza fields e =
    let is = read-is n stanza fields e in
    omega (arith, ap value_sizes is, ap (λ (es : List Entry). length es) is, value_sizes-fields_of stanza)
