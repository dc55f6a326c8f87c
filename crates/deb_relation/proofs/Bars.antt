-- Which bytes a text and its parts have, and that a list has no bar.
use Rattle.std.proofs.Common.{◌≡◌, ◌==◌, ◌<◌, ℕ, suc, zero, List, [], ◌∷◌, Bool, true, false, Option, Some, None, Err, get_or, length, refl, sym, subst, ap, ◌∙◌, arith, inl, inr}
use Rattle.std.specs.Prelude.{◌||◌, ◌&&◌}
use Rattle.std.proofs.lemmas.Bool.{cases_Bool, false_from_ne_true}
use Rattle.std.proofs.lemmas.Bool.Decides.{nat_tests}
use Rattle.std.proofs.lemmas.List.{get_or_default}
use Rattle.std.proofs.lemmas.List.Folds.{list_any_at, list_any_none}
use Rattle.std.specs.List.{list_any, onto_first, slice_split}
use Rattle.std.specs.Option.{is_some}
use Rattle.memchr.specs.Find.{IsFirstByte, is_byte}
use Rattle.deb_relation.specs.Bytes.{bar, comma, has_byte}
use Rattle.deb_relation.specs.Form.{is_blank, is_white}
use Rattle.deb_relation.specs.Relationship.{atoms_of, each}
use Rattle.deb_relation.specs.declared.atom.RelationError.TheVariants.{Alternative}
use Rattle.deb_relation.proofs.ByteKinds.{bar-not_white}

-- whether one of some parts has a byte
abbrev pub any_has : ℕ → List (List ℕ) → Bool
any_has byte parts = list_any (has_byte byte) parts

or-second : (a b : Bool) → b ≡ true → (a || b) ≡ true
or-second true b h = refl
or-second false b h = h

-- what one of the parts has, the text has
pub parts-have : (byte : ℕ) (p : ℕ → Bool) (text : List ℕ) → any_has byte (slice_split p text) ≡ true → has_byte byte text ≡ true
parts-have byte p [] h = h
parts-have byte p (x ∷ xs) h = elim (cases_Bool (p x)) [
  | inl e ↦ or-second (x == byte) (has_byte byte xs) (parts-have byte p xs (rw e at h))
  | inr e ↦ longer (slice_split p xs) (parts-have byte p xs) (rw e at h)
]
  where
    longer : (parts : List (List ℕ)) → (any_has byte parts ≡ true → has_byte byte xs ≡ true) → any_has byte (onto_first x parts) ≡ true → has_byte byte (x ∷ xs) ≡ true
    longer [] known some = elim (cases_Bool (x == byte)) [
      | inl e ↦ rw e refl
      | inr e ↦ cc (rw e at some)
    ]
    longer (part ∷ parts) known some = elim (cases_Bool (x == byte)) [
      | inl e ↦ rw e refl
      | inr e ↦ rw e (known (rw e at some))
    ]

-- a text without a byte is the one part between such bytes
pub one-part : (byte : ℕ) (text : List ℕ) → has_byte byte text ≡ false → slice_split (λ b. b == byte) text ≡ text ∷ []
one-part byte [] h = refl
one-part byte (x ∷ xs) h = elim (cases_Bool (x == byte)) [
  | inl e ↦ cc (rw e at h)
  | inr e ↦ rw e (rw (one-part byte xs (rw e at h)) refl)
]

-- a byte that stands at no place
pub has-none : (byte : ℕ) (text : List ℕ) → ((k : ℕ) → k < length text → (get_or text k 0 == byte) ≡ false) → has_byte byte text ≡ false
has-none byte text none = list_any_none (λ (b : ℕ). b == byte) text (λ k d h. ap (λ (b : ℕ). b == byte) (get_or_default text k d 0 h) ∙ none k h)

-- what a search for a byte tells
pub search-tells : (byte : ℕ) (text : List ℕ) (place : Option ℕ) → IsFirstByte (is_byte byte) text place → is_some place ≡ has_byte byte text
search-tells byte text (Some i) found = sym (list_any_at (λ (b : ℕ). b == byte) text i 0 found.0.high found.1)
search-tells byte text None none = sym (has-none byte text (λ k within. false_from_ne_true (get_or text k 0 == byte) (none k (omega arith) within)))

-- a byte that no separator stands before is one of the first part
first-has : (byte : ℕ) (p : ℕ → Bool) (text : List ℕ) (i : ℕ) → i < length text → get_or text i 0 ≡ byte → p byte ≡ false
    → ((k : ℕ) → k < i → p (get_or text k 0) ≡ false)
    → (part : List ℕ) × (parts : List (List ℕ)) × (slice_split p text ≡ part ∷ parts) × (has_byte byte part ≡ true)
first-has byte p [] i within here apart before = absurd (omega arith)
first-has byte p (x ∷ xs) zero within here apart before = rw other (begun (slice_split p xs))
  where
    other : p x ≡ false
    other = subst (λ b. p b ≡ false) (sym here) apart

    is_it : (x == byte) ≡ true
    is_it = grind (arith, nat_tests)

    begun : (parts : List (List ℕ)) → (part : List ℕ) × (rest : List (List ℕ)) × (onto_first x parts ≡ part ∷ rest) × (has_byte byte part ≡ true)
    begun [] = (x ∷ [], [], refl, rw is_it refl)
    begun (part ∷ rest) = (x ∷ part, rest, refl, rw is_it refl)
first-has byte p (x ∷ xs) (suc i) within here apart before =
    let later = first-has byte p xs i (omega arith) here apart (λ k less. before (suc k) (omega arith)) in
    let other : p x ≡ false = before 0 (omega arith) in
    (x ∷ later.0, later.1, rw (other, later.2) refl, or-second (x == byte) (has_byte byte later.0) later.3)

-- a part with a bar is no white space
barred-filled : (part : List ℕ) → has_byte bar part ≡ true → is_blank part ≡ false
barred-filled [] h = cc
barred-filled (b ∷ bs) h = elim (cases_Bool (b == bar)) [
  | inl e ↦ rw (bar-not_white b e) refl
  | inr e ↦ and-second (is_white b) (is_blank bs) (barred-filled bs (rw e at h))
]
  where
    and-second : (x y : Bool) → y ≡ false → (x && y) ≡ false
    and-second true y none = none
    and-second false y none = refl

-- a text whose first element has a bar is no list
pub barred-refused : (text : List ℕ) (i : ℕ) → i < length text → get_or text i 0 ≡ bar → ((k : ℕ) → k < i → (get_or text k 0 == comma) ≡ false)
    → atoms_of text ≡ Err Alternative
unfolding each
barred-refused text i within here before =
    let first = first-has bar (λ b. b == comma) text i within here refl before in
    rw (first.2, barred-filled first.0 first.3, first.3) refl
