-- What is known to be needed, out of fewer constraints.
use Rattle.std.proofs.Common.{◌≡◌, ℕ, ◌+◌, ◌<◌, ◌≤◌, true, false, ◌&&◌, not, eqb, leb, List, [], ◌++◌, map, Some, length, get_or, sym, ◌∙◌, ap, subst, inl, inr, arith}
use Rattle.std.specs.List.Sorted.{IsStrictlyIncreasing}
use Rattle.std.specs.Option.{option_map}
use Rattle.std.proofs.lemmas.List.{length-map}
use Rattle.std.proofs.lemmas.Option.{slice_get_within, slice_get-get_or, slice_get-map}
use Rattle.std.proofs.lemmas.Bool.{false≢true, cases_Bool, cases_lt, or_left, or_right, or_cases, and_parts, and_from, eqb-true, eq-eqb, leb-true, le-leb}
use Rattle.std.proofs.lemmas.List.Folds.{list_any-append}
use Rattle.number_sets.specs.Sets.{NumberSet, members_of, IsWithin}
use Rattle.number_sets.proofs.ListMembers.{members_of_at, at_members_of}
use Rattle.core_extract.specs.Reduction.{left}
use Rattle.core_extract.proofs.NextOf.{never_falls}
use Rattle.deb_index.specs.Packages.{IndexView}
use Rattle.deb_health.specs.Causes.{without}
use Rattle.deb_health.specs.Health.{AdmitsNone, admits_none_upward}
use Rattle.deb_health.proofs.CoreLemmas.{without_more}
use Rattle.sat_solve.specs.Clauses.{Clause, IsTrueSet}
use Rattle.sat_solve.specs.Rotation.{IsTrueBut}
use Rattle.deb_verdict.specs.Formulas.{AreNeeded}
use Rattle.deb_verdict.proofs.Settled.{kept_has}

-- what some need, fewer of them need
pub fewer_needed : (index : IndexView) (p : ℕ) (out a b : NumberSet) (needed : List ℕ) → IsWithin b a → AreNeeded index p (without out a) needed → AreNeeded index p (without out b) needed
fewer_needed index p out a b needed within are u is none =
    are u is
    (admits_none_upward index p (λ k. without out b k && not (eqb k u)) (λ k. without out a k && not (eqb k u))
    (λ k has. let parts = and_parts (without out b k) (not (eqb k u)) has in and_from (without out a k) (not (eqb k u)) (without_more out b a within k parts.0) parts.1)
    none)

-- where what is kept is settled or stands behind, so do all that are left
pub left_within : (kept settled : List ℕ) (from rest : ℕ) → from ≤ rest → ((k : ℕ) → members_of kept k ≡ true → left (members_of settled) from k ≡ true) → IsWithin (left (members_of kept) rest) (left (members_of settled) from)
left_within kept settled from rest later within k has = elim (or_cases (members_of kept k) (leb rest k) has) [
  | inl is ↦ within k is
  | inr behind ↦ or_right (members_of settled k) (leb from k) (le-leb from k (omega (arith, leb-true rest k behind)))
]

-- what is left without one that is needed admits a set
pub known_admits : (index : IndexView) (p : ℕ) (out : NumberSet) (kept settled needed : List ℕ) (from u : ℕ) → from ≤ u → members_of kept u ≡ false → members_of needed u ≡ true
    → ((k : ℕ) → members_of kept k ≡ true → left (members_of settled) from k ≡ true) → AreNeeded index p (without out (left (members_of settled) from)) needed
    → AdmitsNone index p (without out (left (members_of kept) (u + 1))) → ⊥
known_admits index p out kept settled needed from u later apart is within are none =
    let part : NumberSet = left (members_of kept) (u + 1) in
    let all : NumberSet = left (members_of settled) from in
    are u is
    (admits_none_upward index p (without out part) (λ k. without out all k && not (eqb k u))
    (λ k has.
    let other : eqb k u ≡ false = elim (cases_Bool (eqb k u)) [
      | inl same ↦
          let here : part u ≡ true = subst (λ n. part n ≡ true) (eqb-true k u same) ((and_parts (part k) (not (out k)) has).0) in
          absurd (elim (or_cases (members_of kept u) (leb (u + 1) u) here) [
            | inl has_it ↦ false≢true (sym apart ∙ has_it)
            | inr behind ↦ omega (arith, leb-true (u + 1) u behind)
          ])
      | inr other ↦ other
    ] in
    and_from (without out all k) (not (eqb k u)) (without_more out part all (left_within kept settled from (u + 1) (omega arith) within) k has) (ap not other))
    none)

-- a list that begins as another one, and then has numbers from one on
pub begins_within : (kept settled : List ℕ) (from count : ℕ) → IsStrictlyIncreasing kept → count ≡ length settled → ((i : ℕ) → i < count → get_or kept i 0 ≡ get_or settled i 0) → (count < length kept → from ≤ get_or kept count 0)
    → (k : ℕ) → members_of kept k ≡ true → left (members_of settled) from k ≡ true
begins_within kept settled from count rising counted same behind k is =
    let there = members_of_at kept k is in
    elim (cases_lt there.0 count) [
      | inl before ↦
          or_left (members_of settled k) (leb from k)
          (subst (λ n. members_of settled n ≡ true) (sym (same there.0 before) ∙ there.2) (at_members_of settled there.0 (omega arith)))
      | inr past ↦
          or_right (members_of settled k) (leb from k)
          (le-leb from k (omega (arith, behind (omega (arith, there.1)), never_falls kept rising count there.0 past there.1, there.2)))
    ]

-- two lists of what is needed are one
pub both_needed : (index : IndexView) (p : ℕ) (all : NumberSet) (some more both : List ℕ) → AreNeeded index p all some → AreNeeded index p all more → ((k : ℕ) → members_of both k ≡ members_of (some ++ more) k) → AreNeeded index p all both
both_needed index p all some more both first second same u is =
    elim (or_cases (members_of some u) (members_of more u) (sym (list_any-append (λ n. eqb n u) some more) ∙ (sym (same u) ∙ is))) [
      | inl one ↦ first u one
      | inr other ↦ second u other
    ]

pub none_needed : (index : IndexView) (p : ℕ) (all : NumberSet) → AreNeeded index p all []
none_needed index p all u never = absurd (false≢true never)

-- a set that breaks one group alone is one of the part without the constraint of that group
pub spared : (vars : ℕ) (clauses : List Clause) (must group : ℕ) (set all : NumberSet) (positions : List ℕ) → group < length positions → IsTrueBut vars clauses (map all positions) must group set
    → IsTrueSet vars clauses (map (λ k. all k && not (eqb k (get_or positions group 0))) positions) must set
spared vars clauses must group set all positions inside but =
    let u : ℕ = get_or positions group 0 in
    let part : NumberSet = λ k. all k && not (eqb k u) in
    record {
      within = but.within;
      has_must = but.has_must;
      meets = λ k clause below kept.
          let at : ℕ = (get_or clauses k clause).group in
          let there : at < length positions = omega (arith, slice_get_within (map part positions) at true kept, length-map positions part) in
          let has = and_parts (all (get_or positions at 0)) (not (eqb (get_or positions at 0) u)) (kept_has part positions at there kept) in
          but.meets k clause below
          (slice_get-map all positions at ∙ (ap (option_map all) (slice_get-get_or positions at 0 there) ∙ ap Some has.0))
          (λ same. false≢true (ap not (sym (eq-eqb (get_or positions at 0) u (ap (λ n. get_or positions n 0) same))) ∙ has.1));
    }
