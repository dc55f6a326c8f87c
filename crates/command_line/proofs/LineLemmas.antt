-- The values of the command line's options.
use Rattle.std.proofs.Common.{◌≡◌, ◌<◌, ◌≤◌, ◌^◌, ℕ, Bool, List, Ok, Err, arith, false, true, length, refl, rules, ◌==◌, sym, [], ◌∷◌, codes}
use Rattle.std.specs.Char.{is_ascii_digit}
use Rattle.std.specs.List.{list_all}
use Rattle.std.specs.Str.Parse.{ParsesUnsigned, digits_value}
use Rattle.std.proofs.lemmas.Str.Parse.{IsNumeralModel, numerals_by_value, parse_digits}
use Rattle.std.specs.Str.{bytes_eq}
use Rattle.std.proofs.lemmas.Bool.{eqb-true}
use Rattle.std.proofs.lemmas.Slice.Eq.{bytes_eq-Decides}
use Rattle.run_settings.specs.Settings.{is_excluded}
use Rattle.command_line.specs.Line.{is_count}

-- decimal digits, and the number that they write
own : IsNumeralModel (λ ds. list_all is_ascii_digit ds ≡ true) (digits_value 10)
own = numerals_by_value _ (search rules)

-- a count has all parts of its form
count-good : (most : ℕ) (text : List ℕ) → list_all is_ascii_digit text ≡ true → 0 < length text → 1 ≤ digits_value 10 text → digits_value 10 text ≤ most
    → is_count most text ≡ true
count-good most text digits some least within = grind arith

pub count-least : (most : ℕ) (text : List ℕ) → is_count most text ≡ true → (0 < length text) × (1 ≤ digits_value 10 text) × (digits_value 10 text ≤ most)
count-least most text count = grind arith

-- what is read of digits
pub count-read : (most : ℕ) (text : List ℕ) (n : ℕ) → ParsesUnsigned {E = ℕ} 32 10 text (Ok n) → list_all is_ascii_digit text ≡ true → 1 ≤ n → n ≤ most
    → (is_count most text ≡ true) × (n ≡ digits_value 10 text)
count-read most text n parsed digits least within =
    let read = parse_digits own {E = ℕ} 32 text (Ok n) parsed digits in
    (count-good most text digits read.0.0 (rw (sym read.1) least) (rw (sym read.1) within), read.1)

pub count-unread : (most : ℕ) (text : List ℕ) → ParsesUnsigned {E = ℕ} 32 10 text (Err 0) → list_all is_ascii_digit text ≡ true → most < 2 ^ 32
    → is_count most text ≡ false
count-unread most text parsed digits fits = go (is_count most text) refl
  where
    go : (b : Bool) → is_count most text ≡ b → is_count most text ≡ false
    go false same = same
    go true same =
        let parts = count-least most text same in
        absurd (parse_digits own {E = ℕ} 32 text (Err 0) parsed digits (parts.0, omega (arith, parts.2, fits)))

-- a text that is none of three
pub names-another : (text : List ℕ) → (text ≡ [] → ⊥) → (text ≡ codes "all" → ⊥) → (text ≡ codes "any" → ⊥) → is_excluded text ≡ false
names-another text some all any = go (length text == 0) (bytes_eq text (codes "all")) (bytes_eq text (codes "any")) refl refl refl
  where
    empty : (xs : List ℕ) → length xs ≡ 0 → xs ≡ []
    empty [] e = refl
    empty (x ∷ xs) e = absurd (omega (arith, e))

    go : (p q r : Bool) → (length text == 0) ≡ p → bytes_eq text (codes "all") ≡ q → bytes_eq text (codes "any") ≡ r → is_excluded text ≡ false
    go true q r e f g = absurd (some (empty text (eqb-true (length text) 0 e)))
    go false true r e f g = absurd (all ((bytes_eq-Decides text (codes "all")).0 f))
    go false false true e f g = absurd (any ((bytes_eq-Decides text (codes "any")).0 g))
    go false false false e f g = rw (e, f, g) refl
