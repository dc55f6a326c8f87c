-- Where it can't be that no set with a package meets some constraints, one does.
use Rattle.std.proofs.Common.{◌≡◌, ℕ, zero, suc, ◌<◌, ◌≤◌, Bool, true, false, ltb, length, get_or, Some, slice_get, ◌⊎◌, refl, sym, subst, ◌∙◌, inl, inr, arith}
use mathlib.Core.Path.{fun_ext}
use Rattle.std.proofs.lemmas.Bool.{cases_Bool, cases_lt, false≢true, false_from_ne_true, and_from, and_parts, both_ways, lt-ltb, ltb-true}
use Rattle.std.proofs.lemmas.Option.{same_Some, slice_get_within, slice_get-get_or}
use Rattle.deb_index.specs.declared.constraint.Constraint.{Constraint}
use Rattle.deb_index.specs.declared.constraint.Constraint.TheVariants.{Essential}
use Rattle.deb_index.specs.Packages.{IndexView}
use Rattle.deb_index.specs.Constraints.{Holds, is_holding, constraints_of}
use Rattle.deb_index.proofs.HoldsLemmas.{holds-from-test, test-from-holds}
use Rattle.deb_index.proofs.IndexFacts.{named_is_place, answers_is_place}
use Rattle.number_sets.specs.Sets.{NumberSet}
use Rattle.deb_health.specs.Health.{MeetsAt, Admits, AdmitsNone}
use Rattle.deb_verdict.specs.Closure.{cut}
use Rattle.deb_verdict.proofs.Cutting.{IsEnough, none_of, cut_meets, has_nothing}

-- ---- sets of numbers below a limit

-- no number from the limit on is in the set
abbrev IsUnder : ℕ → NumberSet → Type 0
IsUnder limit set = (number : ℕ) → limit ≤ number → set number ≡ false

abbrev HasUnder : ℕ → (NumberSet → Type 0) → NumberSet → Type 0
HasUnder limit P set = IsUnder limit set × P set

-- of each set it is known whether it has the property
abbrev Decides : (NumberSet → Type 0) → Type 0
Decides P = (set : NumberSet) → P set ⊎ (P set → ⊥)

-- whether 0 is in, and a set for the numbers after it
abbrev led_by : Bool → NumberSet → NumberSet
led_by start rest zero = start
led_by start rest (suc number) = rest number

abbrev past_zero : NumberSet → NumberSet
past_zero set number = set (suc number)

abbrev Led : (NumberSet → Type 0) → Bool → NumberSet → Type 0
Led P start rest = P (led_by start rest)

led_again : (start : Bool) (set : NumberSet) → set 0 ≡ start → set ≡ led_by start (past_zero set)
led_again start set starts = fun_ext by
  where
    by : (number : ℕ) → set number ≡ led_by start (past_zero set) number
    by zero = starts
    by (suc number) = refl

led_under : (limit : ℕ) (start : Bool) (rest : NumberSet) → IsUnder limit rest → IsUnder (suc limit) (led_by start rest)
led_under limit start rest under zero past = absurd (omega (arith, past))
led_under limit start rest under (suc number) past = under number (omega (arith, past))

has_past_zero : (limit : ℕ) (P : NumberSet → Type 0) (start : Bool) (set : NumberSet) → set 0 ≡ start
    → HasUnder (suc limit) P set → HasUnder limit (Led P start) (past_zero set)
has_past_zero limit P start set starts has = (λ number past. has.0 (suc number) (omega (arith, past)), subst P (led_again start set starts) has.1)

-- one of the sets below a limit has a property, or none has it
some_or_none : (limit : ℕ) (P : NumberSet → Type 0) → Decides P → ((set : NumberSet) × HasUnder limit P set) ⊎ ((set : NumberSet) → HasUnder limit P set → ⊥)
some_or_none zero P decides =
    elim (decides none_of) [
      | inl has ↦ inl (none_of, ((λ number past. refl), has))
      | inr lacks ↦ inr (λ set has.
          let same : set ≡ none_of = fun_ext (λ number. has.0 number (omega arith)) in
          lacks (subst P same has.1))
    ]
some_or_none (suc limit) P decides =
    elim (some_or_none limit (Led P false) (λ rest. decides (led_by false rest))) [
      | inl found ↦ inl (led_by false found.0, (led_under limit false found.0 found.1.0, found.1.1))
      | inr none ↦ elim (some_or_none limit (Led P true) (λ rest. decides (led_by true rest))) [
        | inl found ↦ inl (led_by true found.0, (led_under limit true found.0 found.1.0, found.1.1))
        | inr neither ↦ inr (λ set has. elim (cases_Bool (set 0)) [
          | inl starts ↦ neither (past_zero set) (has_past_zero limit P true set starts has)
          | inr lacks ↦ none (past_zero set) (has_past_zero limit P false set lacks has)
        ])
      ]
    ]

-- a set cut down to the numbers below a limit
abbrev cut_at : ℕ → NumberSet → NumberSet
cut_at limit set = cut set (λ q. ltb q limit)

cut_under : (limit : ℕ) (set : NumberSet) → IsUnder limit (cut_at limit set)
cut_under limit set number past =
    false_from_ne_true (cut_at limit set number) (λ is_in.
    let less : number < limit = ltb-true number limit (and_parts (set number) (ltb number limit) is_in).1 in
    omega (arith, less, past))

-- ---- what is known of parts of the constraints

-- what is known of each number below a limit is known of all of them
all_or_not : (limit : ℕ) (P : ℕ → Type 0) → ((k : ℕ) → k < limit → P k ⊎ (P k → ⊥)) → ((k : ℕ) → k < limit → P k) ⊎ (((k : ℕ) → k < limit → P k) → ⊥)
all_or_not zero P decides = inl (λ k below. absurd (omega (arith, below)))
all_or_not (suc limit) P decides =
    elim (decides limit (omega arith)) [
      | inr fails ↦ inr (λ all. fails (all limit (omega arith)))
      | inl last ↦ elim (all_or_not limit P (λ k below. decides k (omega (arith, below)))) [
        | inr fails ↦ inr (λ all. fails (λ k below. all k (omega (arith, below))))
        | inl earlier ↦ inl (λ k below. elim (cases_lt k limit) [
          | inl less ↦ earlier k less
          | inr past ↦ let same : limit ≡ k = omega (arith, below, past) in subst P same last
        ])
      ]
    ]

module _ (index : IndexView) where
  -- ---- what is known of a set of places

  holds_or_not : (set : NumberSet) (constraint : Constraint) → Holds index set constraint ⊎ (Holds index set constraint → ⊥)
  holds_or_not set constraint = elim (cases_Bool (is_holding index set constraint)) [
    | inl passes ↦ inl (holds-from-test index set constraint passes)
    | inr fails ↦ inr (λ holds. both_ways (is_holding index set constraint) fails (test-from-holds index set constraint holds))
  ]

  -- the set meets the constraint at a position, where that is asked for
  abbrev MeetsOne : NumberSet → NumberSet → ℕ → Type 0
  MeetsOne set positions k = (constraint : Constraint) → positions k ≡ true → slice_get (constraints_of index) k ≡ Some constraint → Holds index set constraint

  meets_one_or_not : (set positions : NumberSet) (k : ℕ) → k < length (constraints_of index) → MeetsOne set positions k ⊎ (MeetsOne set positions k → ⊥)
  meets_one_or_not set positions k below =
      let constraint = get_or (constraints_of index) k (Essential 0) in
      let there : slice_get (constraints_of index) k ≡ Some constraint = slice_get-get_or (constraints_of index) k (Essential 0) below in
      elim (cases_Bool (positions k)) [
        | inr out ↦ inl (λ other asked stands. absurd (both_ways (positions k) out asked))
        | inl asked ↦ elim (holds_or_not set constraint) [
          | inl holds ↦ inl (λ other also stands. subst (Holds index set) (same_Some constraint other (sym there ∙ stands)) holds)
          | inr fails ↦ inr (λ meets. fails (meets constraint asked there))
        ]
      ]

  meets_or_not : (set positions : NumberSet) → MeetsAt index set positions ⊎ (MeetsAt index set positions → ⊥)
  meets_or_not set positions =
      elim (all_or_not (length (constraints_of index)) (MeetsOne set positions) (meets_one_or_not set positions)) [
        | inl all ↦ inl (λ k constraint asked there. all k (slice_get_within (constraints_of index) k constraint there) constraint asked there)
        | inr fails ↦ inr (λ meets. fails (λ k below constraint asked there. meets k constraint asked there))
      ]

  -- ---- what is known of a package

  module _ (p : ℕ) (inside : p < length index.packages) where
    abbrev limit : ℕ
    limit = length index.packages

    -- the set has p and meets the constraints at these positions
    abbrev AdmitsBy : NumberSet → NumberSet → Type 0
    AdmitsBy positions set = (set p ≡ true) × MeetsAt index set positions

    admits_by_or_not : (positions : NumberSet) → Decides (AdmitsBy positions)
    admits_by_or_not positions set = elim (cases_Bool (set p)) [
      | inr lacks ↦ inr (λ admits. both_ways (set p) lacks admits.0)
      | inl has ↦ elim (meets_or_not set positions) [
        | inl meets ↦ inl (has, meets)
        | inr fails ↦ inr (λ admits. fails admits.1)
      ]
    ]

    -- all that has a name or answers a need is a place
    places_enough : IsEnough index none_of (λ q. ltb q limit)
    places_enough = record {
      has_forced = λ number is_in. absurd (false≢true is_in);
      essential = λ number right. inr (λ q named. lt-ltb q limit (named_is_place index q number named));
      answered = λ member j is_in. inr (λ q answered. lt-ltb q limit (answers_is_place index member j q answered));
    }

    cut_admits : (positions set : NumberSet) → AdmitsBy positions set → AdmitsBy positions (cut_at limit set)
    cut_admits positions set admits =
        (and_from (set p) (ltb p limit) admits.0 (lt-ltb p limit inside), cut_meets index none_of (λ q. ltb q limit) places_enough set (has_nothing set) positions admits.1)

    -- where it can't be that none meets them, one does
    pub admits_some : (positions : NumberSet) → (AdmitsNone index p positions → ⊥) → Admits index p positions
    admits_some positions some = elim (some_or_none limit (AdmitsBy positions) (admits_by_or_not positions)) [
      | inl found ↦ let has : AdmitsBy positions found.0 = found.1.1 in (found.0, has.0, has.1)
      | inr neither ↦ absurd (some (λ admits.
          let cut : AdmitsBy positions (cut_at limit admits.0) = cut_admits positions admits.0 (admits.1, admits.2) in
          neither (cut_at limit admits.0) (cut_under limit admits.0, cut)))
    ]
