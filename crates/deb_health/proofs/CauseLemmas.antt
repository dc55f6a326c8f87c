-- A cause is never empty: the set of all packages meets each need that some package meets.
use Rattle.std.proofs.Common.{◌≡◌, ◌≢◌, ℕ, true, false, eqb, List, [], ◌∷◌, filter, map, length, Option, Some, slice_get, refl, sym, ◌∙◌, ap, inl, inr}
use Rattle.std.specs.List.{list_any}
use Rattle.std.proofs.lemmas.Bool.{cases_Bool, true≢false, and_parts, and_from, eqb-true, eq-eqb, or_left, false_from_ne_true}
use Rattle.std.specs.Option.{option_map_or}
use Rattle.deb_index.specs.declared.constraint.Constraint.{Constraint}
use Rattle.deb_index.specs.declared.constraint.Constraint.TheVariants.{Essential, Need, Apart, Only}
use Rattle.deb_index.specs.Constraints.{Holds, answers, constraints_of}
use Rattle.deb_index.specs.Meets.{group_satisfiers, meets_need}
use Rattle.deb_index.specs.Packages.{IndexView, need_at}
use Rattle.deb_index.proofs.HoldsLemmas.{group-at}
use Rattle.deb_index.proofs.MemberLemmas.{member-places_where}
use Rattle.number_sets.specs.Sets.{NumberSet, all_of, members_of}
use Rattle.number_sets.proofs.ListMembers.{any_member, member_any}
use Rattle.deb_health.specs.Causes.{cause_at, cause_in, is_final, is_final_at, IsFirstWithout, without}
use Rattle.deb_health.specs.Health.{AdmitsNone}

-- a list that isn't empty has its first member
some_member : (places : List ℕ) → eqb (length places) 0 ≡ false → (q : ℕ) × (members_of places q ≡ true)
some_member [] some = absurd (true≢false some)
some_member (q ∷ rest) some = (q, or_left (eqb q q) (members_of rest q) (eq-eqb q q refl))

module _ (index : IndexView) where
  answer_of_member : (p j q : ℕ) → members_of (group_satisfiers index (need_at index p j)) q ≡ true → answers index p j q ≡ true
  answer_of_member p j q is_in =
      sym (group-at (meets_need index.arch) (need_at index p j) (slice_get index.packages q))
      ∙ (sym (member-places_where (λ item. list_any (meets_need index.arch item) (need_at index p j)) index.packages q) ∙ is_in)

  -- the set of all packages meets what isn't final
  met_by_all : (constraint : Constraint) → is_final index constraint ≡ false → Holds index all_of constraint
  met_by_all (Essential n) fails = absurd (true≢false fails)
  met_by_all (Need p j) fails = λ here. let some = some_member (group_satisfiers index (need_at index p j)) fails in (some.0, refl, answer_of_member p j some.0 some.1)
  met_by_all (Apart p j) fails = absurd (true≢false fails)
  met_by_all (Only n) fails = absurd (true≢false fails)

  -- what admits no set has a constraint that is final
  pub some_final : (p : ℕ) (part : NumberSet) → AdmitsNone index p part → ((k : ℕ) → part k ≡ true → is_final_at index k ≡ false) → ⊥
  some_final p part none not_final =
      none (all_of, refl, λ k constraint is_in there. met_by_all constraint (sym (ap (λ (found : Option Constraint). option_map_or (is_final index) found false) there) ∙ not_final k is_in))

  -- so a core has one that is not taken out
  pub core_has_final : (p : ℕ) (out : NumberSet) (core : List ℕ) → AdmitsNone index p (without out (members_of core)) → (k : ℕ) × (cause_at index core k ≡ true)
  core_has_final p out core none =
      elim (cases_Bool (list_any (is_final_at index) core)) [
        | inl some ↦ let found = any_member (is_final_at index) core some in (found.0, and_from (members_of core found.0) (is_final_at index found.0) found.2 found.1)
        | inr never ↦
            absurd (some_final p (without out (members_of core)) none
            (λ k is_in. false_from_ne_true (is_final_at index k) (λ final.
            absurd (true≢false (sym (member_any (is_final_at index) core k final ((and_parts (members_of core k) _ is_in).0)) ∙ never)))))
      ]

  none_left : (x : Constraint) (xs : List Constraint) → filter (is_final index) (x ∷ xs) ≡ [] → (is_final index x ≡ false) × (filter (is_final index) xs ≡ [])
  none_left x xs none =
      elim (cases_Bool (is_final index x)) [
        | inl passes ↦ let some : x ∷ filter (is_final index) xs ≡ [] = rw passes at none in cc
        | inr fails ↦ (fails, rw fails at none)
      ]

  -- where no constraint of a core is final, none is at its positions
  none_final_at : (core : List ℕ) (constraints : List Constraint) → map (slice_get (constraints_of index)) core ≡ map Some constraints → cause_in index constraints ≡ []
      → (k : ℕ) → cause_at index core k ≡ false
  none_final_at [] constraints stand none k = refl
  none_final_at (x ∷ xs) [] stand none k = cc
  none_final_at (x ∷ xs) (c ∷ cs) stand none k =
      let head : slice_get (constraints_of index) x ≡ Some c = cc in
      let tail : map (slice_get (constraints_of index)) xs ≡ map Some cs = cc in
      let left = none_left c cs none in
      elim (cases_Bool (eqb x k)) [
        | inl here ↦
            let same : x ≡ k = eqb-true x k here in
            let fails : is_final_at index k ≡ false = sym (ap (is_final_at index) same) ∙ (ap (λ (found : Option Constraint). option_map_or (is_final index) found false) head ∙ left.0) in
            rw (here, fails) refl
        | inr other ↦ rw other (none_final_at xs cs tail left.1 k)
      ]

  pub cause_not_empty : (p : ℕ) (out : NumberSet) (core : List ℕ) (constraints : List Constraint) → IsFirstWithout index p out core
      → map (slice_get (constraints_of index)) core ≡ map Some constraints → cause_in index constraints ≢ []
  cause_not_empty p out core constraints first stand none =
      let found = core_has_final p out core first.first.0 in
      true≢false (sym found.1 ∙ none_final_at core constraints stand none found.0)
