-- A text that is cut right behind an empty line: its stanzas are those of the first part and, behind them, those of the second.
use Rattle.std.proofs.Common.{◌≡◌, ℕ, zero, suc, ◌+◌, ◌<◌, Bool, true, false, cond, not, List, [], ◌∷◌, ◌++◌, length, take, drop, nat_eq, refl, sym, ap, subst, ◌∙◌, arith, length-drop, append_assoc}
use Rattle.std.specs.Prelude.{slice_index}
use Rattle.std.specs.List.{slice_split, onto_first, filter}
use Rattle.std.proofs.lemmas.List.{append-nil, get_or-drop}
use Rattle.std.proofs.lemmas.List.Elements.{filter-append}
use Rattle.std.proofs.lemmas.List.Splits.{slice_split-cons_yes, length-slice_split}
use Rattle.memchr.specs.Find.{OccursAt}
use Rattle.deb_control.specs.Lines.{is_empty, is_blank, is_comment, without_empty_end, lines, content_lines}
use Rattle.deb_control.specs.Stanzas.{IsClosed, runs, stanzas_of}
use Rattle.deb_control.proofs.RunLemmas.{runs-nil, stanzas_of-is}
use Rattle.deb_control.proofs.LineLemmas.{content_lines-nil}

-- ---- parts on both sides of an element that parts them

onto-append : {X : Type 0} (v : Bool) (x : X) (parts others : List (List X)) → 0 < length parts
    → cond v ([] ∷ (parts ++ others)) (onto_first x (parts ++ others)) ≡ cond v ([] ∷ parts) (onto_first x parts) ++ others
onto-append v x [] others some = absurd (omega (arith, some))
onto-append true x (part ∷ parts) others some = refl
onto-append false x (part ∷ parts) others some = refl

split-append : {X : Type 0} (p : X → Bool) (xs : List X) (y : X) (ys : List X) → p y ≡ true → slice_split p (xs ++ y ∷ ys) ≡ slice_split p xs ++ slice_split p ys
split-append p [] y ys e = slice_split-cons_yes p y ys e
split-append p (x ∷ xs) y ys e =
    ap (λ s. cond (p x) ([] ∷ s) (onto_first x s)) (split-append p xs y ys e)
    ∙ onto-append (p x) x (slice_split p xs) (slice_split p ys) (omega (arith, length-slice_split p xs))

-- ---- the lines of a text with an empty line in it

abbrev is_feed : ℕ → Bool
is_feed b = nat_eq b 10

without-append : (parts others : List (List ℕ)) → 0 < length others → without_empty_end (parts ++ others) ≡ parts ++ without_empty_end others
without-append [] others some = refl
without-append (part ∷ []) [] some = absurd (omega (arith, some))
without-append (part ∷ []) (other ∷ others) some = refl
without-append (part ∷ next ∷ parts) others some = ap (λ (ps : List (List ℕ)). part ∷ ps) (without-append (next ∷ parts) others some)

lines-append : (front back : List ℕ) → lines (front ++ 10 ∷ back) ≡ slice_split is_feed front ++ lines back
unfolding lines
lines-append front back =
    ap without_empty_end (split-append is_feed front 10 back refl) ∙ without-append (slice_split is_feed front) (slice_split is_feed back) (omega (arith, length-slice_split is_feed back))

lines-cut : (front back : List ℕ) → lines (front ++ 10 ∷ 10 ∷ back) ≡ slice_split is_feed front ++ [] ∷ lines back
lines-cut front back = lines-append front (10 ∷ back) ∙ ap (λ (ls : List (List ℕ)). slice_split is_feed front ++ ls) (lines-append [] back)

-- the lines in front of the empty line, without comments
abbrev before : List ℕ → List (List ℕ)
before front = filter (λ line. not (is_comment line)) (slice_split is_feed front)

content-cut : (front back : List ℕ) → content_lines (front ++ 10 ∷ 10 ∷ back) ≡ before front ++ [] ∷ content_lines back
unfolding content_lines
content-cut front back = ap (filter (λ (line : List ℕ). not (is_comment line))) (lines-cut front back) ∙ filter-append (λ (line : List ℕ). not (is_comment line)) (slice_split is_feed front) ([] ∷ lines back)

runs-cut : (front back : List (List ℕ)) → runs (front ++ [] ∷ back) ≡ runs front ++ runs back
unfolding runs
runs-cut front back =
    ap (filter (λ (run : List (List ℕ)). not (is_empty run))) (split-append is_blank front [] back refl)
    ∙ filter-append (λ (run : List (List ℕ)). not (is_empty run)) (slice_split is_blank front) (slice_split is_blank back)

stanzas-front : (front back : List ℕ) → stanzas_of (front ++ 10 ∷ 10 ∷ back) ≡ runs (before front) ++ stanzas_of back
stanzas-front front back =
    stanzas_of-is (front ++ 10 ∷ 10 ∷ back) ∙ ap runs (content-cut front back) ∙ runs-cut (before front) (content_lines back)
    ∙ ap (λ (ss : List (List (List ℕ))). runs (before front) ++ ss) (sym (stanzas_of-is back))

stanzas-none : stanzas_of [] ≡ []
stanzas-none = stanzas_of-is [] ∙ ap runs content_lines-nil ∙ runs-nil

pub stanzas-cut : (front back : List ℕ) → stanzas_of (front ++ 10 ∷ 10 ∷ back) ≡ stanzas_of (front ++ 10 ∷ 10 ∷ []) ++ stanzas_of back
stanzas-cut front back =
    let ended : stanzas_of (front ++ 10 ∷ 10 ∷ []) ≡ runs (before front) =
    stanzas-front front [] ∙ ap (λ (ss : List (List (List ℕ))). runs (before front) ++ ss) stanzas-none ∙ append-nil (runs (before front)) in
    stanzas-front front back ∙ ap (λ (ss : List (List (List ℕ))). ss ++ stanzas_of back) (sym ended)

pub stanzas-uncut : (text : List ℕ) → stanzas_of text ≡ stanzas_of text ++ stanzas_of []
stanzas-uncut text = sym (append-nil (stanzas_of text)) ∙ ap (λ (ss : List (List (List ℕ))). stanzas_of text ++ ss) (sym stanzas-none)

-- ---- texts over whose end no stanza goes on

closed-cut : (front : List ℕ) → IsClosed (front ++ 10 ∷ 10 ∷ [])
closed-cut front more = ap stanzas_of (append_assoc front (10 ∷ 10 ∷ []) more) ∙ stanzas-cut front more

-- ---- where two line feeds stand

pub feeds-front : (text : List ℕ) (k : ℕ) → suc k < length text → slice_index text k ≡ 10 → slice_index text (suc k) ≡ 10 → take (suc (suc k)) text ≡ take k text ++ 10 ∷ 10 ∷ []
feeds-front [] k within first second = absurd (omega (arith, within))
feeds-front (x ∷ []) k within first second = absurd (omega (arith, within))
feeds-front (x ∷ y ∷ text) zero within first second = rw (first, second) refl
feeds-front (x ∷ y ∷ text) (suc k) within first second = ap (λ (bytes : List ℕ). x ∷ bytes) (feeds-front (y ∷ text) k (omega (arith, within)) first second)

pub feeds-whole : (text : List ℕ) (k : ℕ) → suc k < length text → slice_index text k ≡ 10 → slice_index text (suc k) ≡ 10 → text ≡ take k text ++ 10 ∷ 10 ∷ drop (suc (suc k)) text
feeds-whole [] k within first second = absurd (omega (arith, within))
feeds-whole (x ∷ []) k within first second = absurd (omega (arith, within))
feeds-whole (x ∷ y ∷ text) zero within first second = rw (first, second) refl
feeds-whole (x ∷ y ∷ text) (suc k) within first second = ap (λ (bytes : List ℕ). x ∷ bytes) (feeds-whole (y ∷ text) k (omega (arith, within)) first second)

-- two line feeds at some place: the stanzas of the bytes up to and with them, and of the bytes behind
pub stanzas-at : (text : List ℕ) (k : ℕ) → suc k < length text → slice_index text k ≡ 10 → slice_index text (suc k) ≡ 10
    → stanzas_of text ≡ stanzas_of (take (suc (suc k)) text) ++ stanzas_of (drop (suc (suc k)) text)
stanzas-at text k within first second =
    let back = drop (suc (suc k)) text in
    ap stanzas_of (feeds-whole text k within first second) ∙ stanzas-cut (take k text) back
    ∙ ap (λ (front : List ℕ). stanzas_of front ++ stanzas_of back) (sym (feeds-front text k within first second))

-- where a search from some byte on finds two line feeds
module _ (text : List ℕ) (from place : ℕ) (at : OccursAt (drop from text) (10 ∷ 10 ∷ []) place) where
  within : suc (from + place) < length text
  within = omega (arith, at.fits, length-drop from text)

  first : slice_index text (from + place) ≡ 10
  first = let none : place ≡ place + 0 = omega arith in ap (λ n. slice_index text (from + n)) none ∙ sym (get_or-drop from text (place + 0) 0) ∙ at.reads 0 (omega arith)

  second : slice_index text (suc (from + place)) ≡ 10
  second = let one : suc (from + place) ≡ from + (place + 1) = omega arith in ap (slice_index text) one ∙ sym (get_or-drop from text (place + 1) 0) ∙ at.reads 1 (omega arith)

  two : suc (suc (from + place)) ≡ from + place + 2
  two = omega arith

  pub found-cut : stanzas_of text ≡ stanzas_of (take (from + place + 2) text) ++ stanzas_of (drop (from + place + 2) text)
  found-cut = subst (λ n. stanzas_of text ≡ stanzas_of (take n text) ++ stanzas_of (drop n text)) two (stanzas-at text (from + place) within first second)

  pub found-closed : IsClosed (take (from + place + 2) text)
  found-closed =
      subst (λ n. IsClosed (take n text)) two
      (subst (λ (front : List ℕ). IsClosed front) (sym (feeds-front text (from + place) within first second)) (closed-cut (take (from + place) text)))
