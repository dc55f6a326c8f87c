-- The order on sets of numbers: it is total, and the first set is one alone.
use Rattle.std.proofs.Common.{◌≡◌, ℕ, zero, suc, Bool, true, false, ◌&&◌, refl, sym, ◌∙◌, ap, inl, inr, ◌⊎◌, arith}
use mathlib.Core.Path.{fun_ext}
use Rattle.std.proofs.lemmas.Bool.{cases_Bool, cases_lt, false≢true}
use Rattle.number_sets.specs.Sets.{NumberSet, AgreeBelow, IsBefore, IsFirst}

agree_more : (a b : NumberSet) (bound : ℕ) → AgreeBelow a b bound → a bound ≡ b bound → AgreeBelow a b (suc bound)
agree_more a b bound agree here below less =
    elim (cases_lt below bound) [
      | inl under ↦ agree below under
      | inr at ↦ let same : bound ≡ below = omega arith in sym (ap a same) ∙ (here ∙ ap b same)
    ]

-- below a bound two sets agree, or one comes before the other
pub before_total : (a b : NumberSet) (bound : ℕ) → AgreeBelow a b bound ⊎ (IsBefore a b ⊎ IsBefore b a)
before_total a b zero = inl (λ below less. absurd (omega arith))
before_total a b (suc bound) =
    elim (before_total a b bound) [
      | inl agree ↦ elim (cases_Bool (a bound)) [
        | inl has ↦ elim (cases_Bool (b bound)) [
          | inl both ↦ inl (agree_more a b bound agree (has ∙ sym both))
          | inr lacks ↦ inr (inr (bound, (λ below less. sym (agree below less)), lacks, has))
        ]
        | inr lacks ↦ elim (cases_Bool (b bound)) [
          | inl has ↦ inr (inl (bound, agree, lacks, has))
          | inr neither ↦ inl (agree_more a b bound agree (lacks ∙ sym neither))
        ]
      ]
      | inr apart ↦ inr apart
    ]

-- two sets of which none comes before the other are one
pub neither_before : (a b : NumberSet) → (IsBefore a b → ⊥) → (IsBefore b a → ⊥) → a ≡ b
neither_before a b not_a not_b =
    fun_ext (λ number. elim (before_total a b (suc number)) [
      | inl agree ↦ agree number (omega arith)
      | inr apart ↦ absurd (elim apart [ inl before ↦ not_a before | inr after ↦ not_b after ])
    ])

-- the first set is one alone
pub first_once : (P : NumberSet → Type 0) (a b : NumberSet) → IsFirst P a → IsFirst P b → a ≡ b
first_once P a b first second = neither_before a b (λ before. second.1 a first.0 before) (λ before. first.1 b second.0 before)

-- a set cut down to another
abbrev pub cut : NumberSet → NumberSet → NumberSet
cut set within number = set number && within number

and_has : (a b : Bool) → (a && b) ≡ true → a ≡ true
and_has true b both = refl
and_has false b both = both

cut_not_after : (set within : NumberSet) → IsBefore set (cut set within) → ⊥
cut_not_after set within before = false≢true (sym before.2 ∙ and_has (set before.0) (within before.0) before.3)

-- where the property survives the cut, the first set lies within
pub first_within : (P : NumberSet → Type 0) (set within : NumberSet) → IsFirst P set → P (cut set within) → set ≡ cut set within
first_within P set within first holds = neither_before set (cut set within) (cut_not_after set within) (λ before. first.1 (cut set within) holds before)
