-- Cores that are found one after the other, each with its cause taken out.
use Rattle.std.proofs.Common.{◌≡◌, ℕ, zero, suc, ◌+◌, ◌<◌, ◌≤◌, Bool, true, false, ◌&&◌, ◌||◌, eqb, List, [], ◌∷◌, ◌++◌, Global, Option, None, Vec, IfNone, IfSome, length, map, get_or, take, All, Some, slice_get, if◌then◌else◌, refl, sym, subst, ◌∙◌, ap, append_assoc, append-nil, inl, inr, arith}
use mathlib.Core.Path.{fun_ext}
use Rattle.std.proofs.Math.Bool.{or-false}
use Rattle.std.proofs.lemmas.Bool.{cases_Bool, cases_lt, and_parts, eqb-true, or_left, or_right}
use Rattle.std.proofs.lemmas.List.{map-append, take_more}
use Rattle.deb_index.specs.declared.constraint.Constraint.{Constraint}
use Rattle.deb_index.specs.Packages.{IndexView}
use Rattle.deb_index.specs.Constraints.{constraints_of}
use Rattle.std.specs.List.Sorted.{IsStrictlyIncreasing}
use Rattle.number_sets.specs.Sets.{NumberSet, all_of, IsFirst, IsWithin, members_of, with_number}
use Rattle.number_sets.proofs.ListMembers.{members_of_at}
use Rattle.number_sets.proofs.MembersLemmas.{members_of_push}
use Rattle.deb_health.specs.Causes.{AreCoresWithout, cause_at, either, is_final_at, IsFirstWithout, nothing, without}
use Rattle.deb_health.specs.declared.told.Cores.{Cores}
use Rattle.deb_health.specs.declared.told.Cores.TheVariants as cores_are
use Rattle.deb_health.specs.Health.{Admits, AdmitsNone, IsHopeless}
use Rattle.deb_health.specs.Verdicts.{AreToldCores}
use Rattle.deb_health.proofs.CauseLemmas.{core_has_final}
use Rattle.deb_health.proofs.CoreLemmas.{admits_more, core_left, without_nothing}
use Rattle.deb_verdict.proofs.AdmitsSome.{admits_some}
use Rattle.deb_verdict.proofs.Whole.{all_admit_none}

-- ---- a cause, one constraint of its core after the other

-- what is out, with one member more that is final
taken_or : (out is_in here final : Bool) → (here ≡ true → final ≡ true) → ((out || (is_in && final)) || (here || false)) ≡ (out || ((is_in || (here || false)) && final))
taken_or true is_in here final is = refl
taken_or false true true final is = rw (is refl) refl
taken_or false true false true is = refl
taken_or false true false false is = refl
taken_or false false true final is = sym (is refl)
taken_or false false false final is = refl

-- what is out, with one member more that is not final
passed_or : (out is_in here final : Bool) → (here ≡ true → final ≡ false) → (out || (is_in && final)) ≡ (out || ((is_in || (here || false)) && final))
passed_or true is_in here final is = refl
passed_or false true here final is = refl
passed_or false false true final is = sym (is refl)
passed_or false false false final is = refl

members_of_with : (numbers : List ℕ) (added k : ℕ) → members_of (with_number numbers added) k ≡ (members_of numbers k || (eqb added k || false))
members_of_with numbers added k =
    let With : Bool → List ℕ = λ has. if has then numbers else (numbers ++ added ∷ []) in
    elim (cases_Bool (members_of numbers added)) [
      | inl has ↦
          ap (λ b. members_of (With b) k) has
          ∙ elim (cases_Bool (eqb added k)) [
            | inl here ↦
                let there : members_of numbers k ≡ true = sym (ap (members_of numbers) (eqb-true added k here)) ∙ has in
                there ∙ sym (or_left (members_of numbers k) (eqb added k || false) there)
            | inr other ↦ sym (ap (λ b. members_of numbers k || (b || false)) other ∙ or-false (members_of numbers k))
          ]
      | inr lacks ↦ ap (λ b. members_of (With b) k) lacks ∙ members_of_push numbers added k
    ]

module _ (index : IndexView) (out : NumberSet) (core : List ℕ) (i : ℕ) (inside : i < length core) (k : ℕ) where
  here_final : (final : Bool) → is_final_at index (get_or core i 0) ≡ final → eqb (get_or core i 0) k ≡ true → is_final_at index k ≡ final
  here_final final is here = sym (ap (is_final_at index) (eqb-true (get_or core i 0) k here)) ∙ is

  with_one : either out (cause_at index (take (i + 1) core)) k ≡ (out k || ((members_of (take i core) k || (eqb (get_or core i 0) k || false)) && is_final_at index k))
  with_one =
      ap (λ list. out k || (members_of list k && is_final_at index k)) (take_more core i 0 inside)
      ∙ ap (λ has. out k || (has && is_final_at index k)) (members_of_push (take i core) (get_or core i 0) k)

  pub cause_takes : (before : List ℕ) → is_final_at index (get_or core i 0) ≡ true → members_of before k ≡ either out (cause_at index (take i core)) k
      → members_of (with_number before (get_or core i 0)) k ≡ either out (cause_at index (take (i + 1) core)) k
  cause_takes before final so_far =
      members_of_with before (get_or core i 0) k
      ∙ (ap (λ has. has || (eqb (get_or core i 0) k || false)) so_far
      ∙ (taken_or (out k) (members_of (take i core) k) (eqb (get_or core i 0) k) (is_final_at index k) (here_final true final)
      ∙ sym with_one))

  pub cause_passes : (before : List ℕ) → is_final_at index (get_or core i 0) ≡ false → members_of before k ≡ either out (cause_at index (take i core)) k
      → members_of before k ≡ either out (cause_at index (take (i + 1) core)) k
  cause_passes before not_final so_far =
      so_far
      ∙ (passed_or (out k) (members_of (take i core) k) (eqb (get_or core i 0) k) (is_final_at index k) (here_final false not_final)
      ∙ sym with_one)

-- ---- how many positions are not taken out

abbrev pub count_left : NumberSet → ℕ → ℕ
count_left out zero = 0
count_left out (suc n) = (if out n then 0 else 1) + count_left out n

left_no_more : (less more : NumberSet) (bound : ℕ) → IsWithin less more → count_left more bound ≤ count_left less bound
left_no_more less more zero within = omega arith
left_no_more less more (suc n) within =
    let rest : count_left more n ≤ count_left less n = left_no_more less more n within in
    elim (cases_Bool (less n)) [
      | inl taken ↦ rw (taken, within n taken) (omega arith)
      | inr left ↦ elim (cases_Bool (more n)) [
        | inl now ↦ rw (left, now) (omega arith)
        | inr still ↦ rw (left, still) (omega arith)
      ]
    ]

left_fewer : (less more : NumberSet) (bound k : ℕ) → IsWithin less more → k < bound → less k ≡ false → more k ≡ true → count_left more bound < count_left less bound
left_fewer less more zero k within below left taken = absurd (omega arith)
left_fewer less more (suc n) k within below left taken =
    elim (cases_lt k n) [
      | inl under ↦
          let rest : count_left more n < count_left less n = left_fewer less more n k within under left taken in
          elim (cases_Bool (less n)) [
            | inl also ↦ rw (also, within n also) (omega arith)
            | inr not_yet ↦ elim (cases_Bool (more n)) [
              | inl now ↦ rw (not_yet, now) (omega arith)
              | inr still ↦ rw (not_yet, still) (omega arith)
            ]
          ]
      | inr at ↦
          let here : k ≡ n = omega arith in
          let before : less n ≡ false = sym (ap less here) ∙ left in
          let after : more n ≡ true = sym (ap more here) ∙ taken in
          let rest : count_left more n ≤ count_left less n = left_no_more less more n within in
          rw (before, after) (omega arith)
    ]

member_below : (xs : List ℕ) (bound q : ℕ) → All (λ k. k < bound) xs → members_of xs q ≡ true → q < bound
member_below xs bound q all is_in =
    let at = members_of_at xs q is_in in
    omega (arith, all at.0 0 at.1, at.2)

-- ---- the first core, where one is found

module _ (index : IndexView) (p : ℕ) (out : NumberSet) where
  pub first_found : (found : Option (Vec ℕ Global)) → IfSome found (λ core. IsStrictlyIncreasing core.items)
      → IfSome found (λ core. IsFirst (λ set. AdmitsNone index p (without out set)) (members_of core.items)) → IfSome found (λ core. IsFirstWithout index p out core.items)
  first_found None rising first = tt
  first_found (Some core) rising first = record { rising = rising; first = first }

  pub none_found : (found : Option (Vec ℕ Global)) → p < length index.packages → IfNone found (AdmitsNone index p (without out all_of) → ⊥)
      → IfNone found (Admits index p (without out all_of))
  none_found None inside some = admits_some index p inside (without out all_of) some
  none_found (Some core) inside some = tt

-- ---- cores so far

-- these cores are found, and what is taken out is their causes
pub record AreFound (index : IndexView) (p : ℕ) (out : NumberSet) (cores : List (List Constraint)) : Type 0 where
  pub positions : List (List ℕ)
  pub further : (later : List (List ℕ)) → AreCoresWithout index p out later → AreCoresWithout index p nothing (positions ++ later)
  pub stand_there : map (map (slice_get (constraints_of index))) positions ≡ map (map Some) cores

module _ (index : IndexView) (p : ℕ) where
  module _ (out after : NumberSet) (core : List ℕ) (first : IsFirstWithout index p out core) (taken : (k : ℕ) → after k ≡ either out (cause_at index core) k) where
    -- one core more
    pub one_found : (constraints : List Constraint) (cores : List (List Constraint)) → map (slice_get (constraints_of index)) core ≡ map Some constraints
        → AreFound index p out cores → AreFound index p after (cores ++ constraints ∷ [])
    one_found constraints cores stand found =
        let same : after ≡ either out (cause_at index core) = fun_ext taken in
        record {
          positions = found.positions ++ core ∷ [];
          further = λ later are.
              (let Later : NumberSet → Type 0 = λ set. AreCoresWithout index p set later in
              let All : List (List ℕ) → Type 0 = λ lists. AreCoresWithout index p nothing lists in
              subst All (sym (append_assoc found.positions (core ∷ []) later)) (found.further (core ∷ later) (first, subst Later same are)));
          stand_there =
              map-append (map (slice_get (constraints_of index))) found.positions (core ∷ [])
              ∙ (ap (λ front. front ++ map (slice_get (constraints_of index)) core ∷ []) found.stand_there
              ∙ (ap (λ last. map (map Some) cores ++ last ∷ []) stand
              ∙ sym (map-append (map Some) cores (constraints ∷ []))));
        }

    -- with its cause fewer positions are left
    pub fewer_left : All (λ k. k < length (constraints_of index)) core → count_left after (length (constraints_of index)) < count_left out (length (constraints_of index))
    fewer_left within =
        let one = core_has_final index p out core first.first.0 in
        let is_in : members_of core one.0 ≡ true = (and_parts (members_of core one.0) (is_final_at index one.0) one.1).0 in
        left_fewer out after (length (constraints_of index)) one.0
        (λ k was. taken k ∙ or_left (out k) (cause_at index core k) was)
        (member_below core (length (constraints_of index)) one.0 within is_in)
        (core_left index p out core first one.0 is_in)
        (taken one.0 ∙ or_right (out one.0) (cause_at index core one.0) one.1)

  -- where some set meets what is left, these are as many as are wanted: of a first one alone nothing is out yet
  pub all_told : (wanted : Cores) (out : List ℕ) (cores : List (List Constraint)) → (wanted ≡ cores_are.None → ⊥) → (wanted ≡ cores_are.First → out ≡ []) → IsHopeless index p
      → AreFound index p (members_of out) cores → Admits index p (without (members_of out) all_of) → AreToldCores wanted index p cores
  all_told cores_are.None out cores some begins hopeless found admits = absurd (some refl)
  all_told cores_are.First out cores some begins hopeless found admits =
      let Meets : List ℕ → Type 0 = λ list. Admits index p (without (members_of list) all_of) in
      absurd (all_admit_none index p hopeless (admits_more index p all_of (without nothing all_of) (without_nothing nothing all_of (λ k. refl)) (subst Meets (begins refl) admits)))
  all_told cores_are.All out cores some begins hopeless found admits =
      let All : List (List ℕ) → Type 0 = λ lists. AreCoresWithout index p nothing lists in
      record {
        positions = found.positions;
        each_first = subst All (append-nil found.positions) (found.further [] admits);
        stand_there = found.stand_there;
      }
