-- The computing test of a constraint tells whether it holds.
use Rattle.std.proofs.Common.{◌≡◌, ℕ, Bool, true, false, not, ◌&&◌, eqb, List, [], ◌∷◌, Option, Some, None, slice_get, refl, sym, ◌∙◌, inl, inr}
use Rattle.std.specs.Prelude.{count_by}
use Rattle.std.specs.List.{list_any}
use Rattle.std.specs.Option.{option_map_or}
use Rattle.std.proofs.lemmas.Bool.{cases_Bool, false≢true, or_cases, or_left, or_right, and_from, and_parts, not-true, not_from_false, eqb-true, eq-eqb, leb-true, le-leb, false_from_ne_true}
use Rattle.number_sets.proofs.ListMembers.{any_member, member_any}
use Rattle.deb_index.specs.declared.constraint.Constraint.{Constraint}
use Rattle.deb_index.specs.declared.constraint.Constraint.TheVariants.{Essential, Need, Apart, Only}
use Rattle.deb_index.specs.Packages.{IndexView, PackageView, apart_at, is_named, name_at, need_at, places_of, places_where}
use Rattle.deb_index.specs.Meets.{group_satisfiers, meets, meets_need, satisfiers}
use Rattle.deb_index.specs.Constraints.{Holds, answers, is_holding}
use Rattle.deb_index.proofs.MemberLemmas.{member-places_where, rising-places_where}
use Rattle.deb_index.proofs.CountLemmas.{count-from-one, one-from-count}

module _ {P A : Type 0} (test : P → A → Bool) where
  none-meets : (group : List A) → false ≡ list_any (λ a. false) group
  none-meets [] = refl
  none-meets (a ∷ group) = none-meets group

  -- a package meets an alternative of a group, asked of the package or of its place
  pub group-at : (group : List A) (o : Option P) → option_map_or (λ q. list_any (test q) group) o false ≡ list_any (λ a. option_map_or (λ q. test q a) o false) group
  group-at group None = none-meets group
  group-at group (Some q) = refl

module _ (index : IndexView) (set : ℕ → Bool) where
  abbrev at : (PackageView → Bool) → ℕ → Bool
  at test q = option_map_or test (slice_get index.packages q) false

  abbrev answering : ℕ → ℕ → PackageView → Bool
  answering p j = λ q. list_any (meets_need index.arch q) (need_at index p j)

  abbrev hit_by : ℕ → ℕ → PackageView → Bool
  hit_by p j = λ q. meets index.arch q (apart_at index p j)

  answers-at : (p j q : ℕ) → at (answering p j) q ≡ answers index p j q
  answers-at p j q = group-at (meets_need index.arch) (need_at index p j) (slice_get index.packages q)

  some-at : (test : PackageView → Bool) → list_any set (places_where test index.packages) ≡ true → (q : ℕ) × (set q ≡ true) × (at test q ≡ true)
  some-at test h = let found = any_member set (places_where test index.packages) h in (found.0, found.1, sym (member-places_where test index.packages found.0) ∙ found.2)

  at-some : (test : PackageView → Bool) (q : ℕ) → set q ≡ true → at test q ≡ true → list_any set (places_where test index.packages) ≡ true
  at-some test q inside h = member_any set (places_where test index.packages) q inside (member-places_where test index.packages q ∙ h)

  -- a member of the set other than p
  abbrev other : ℕ → ℕ → Bool
  other p q = set q && not (eqb q p)

  pub holds-from-test : (c : Constraint) → is_holding index set c ≡ true → Holds index set c
  unfolding is_holding
  holds-from-test (Essential n) h = some-at (is_named (name_at index n)) h
  holds-from-test (Need p j) h = λ inside.
      elim (or_cases (not (set p)) (list_any set (group_satisfiers index (need_at index p j))) h) [
        | inl out ↦ absurd (false≢true (sym (not-true (set p) out) ∙ inside))
        | inr met ↦ let found = some-at (answering p j) met in (found.0, found.1, sym (answers-at p j found.0) ∙ found.2)
      ]
  holds-from-test (Apart p j) h = λ inside q there hit.
      elim (or_cases (not (set p)) (not (list_any (other p) (satisfiers index (apart_at index p j)))) h) [
        | inl out ↦ absurd (false≢true (sym (not-true (set p) out) ∙ inside))
        | inr none ↦ elim (cases_Bool (eqb q p)) [
          | inl same ↦ eqb-true q p same
          | inr differs ↦ absurd (false≢true (sym (not-true (list_any (other p) (satisfiers index (apart_at index p j))) none)
              ∙ member_any (other p) (satisfiers index (apart_at index p j)) q (and_from (set q) (not (eqb q p)) there (not_from_false (eqb q p) differs)) (member-places_where (hit_by p j) index.packages q ∙ hit)))
        ]
      ]
  holds-from-test (Only n) h = λ q r inside also named too.
      one-from-count set (places_of index (name_at index n)) (leb-true (count_by set (places_of index (name_at index n))) 1 h) q r inside also
      (member-places_where (is_named (name_at index n)) index.packages q ∙ named) (member-places_where (is_named (name_at index n)) index.packages r ∙ too)

  pub test-from-holds : (c : Constraint) → Holds index set c → is_holding index set c ≡ true
  unfolding is_holding
  test-from-holds (Essential n) h = at-some (is_named (name_at index n)) h.0 h.1 h.2
  test-from-holds (Need p j) h =
      elim (cases_Bool (set p)) [
        | inl inside ↦ let found = h inside in
            or_right (not (set p)) (list_any set (group_satisfiers index (need_at index p j))) (at-some (answering p j) found.0 found.1 (answers-at p j found.0 ∙ found.2))
        | inr outside ↦ or_left (not (set p)) (list_any set (group_satisfiers index (need_at index p j))) (not_from_false (set p) outside)
      ]
  test-from-holds (Apart p j) h =
      elim (cases_Bool (set p)) [
        | inl inside ↦ or_right (not (set p)) (not (list_any (other p) (satisfiers index (apart_at index p j))))
            (not_from_false (list_any (other p) (satisfiers index (apart_at index p j))) (false_from_ne_true (list_any (other p) (satisfiers index (apart_at index p j))) (λ some.
            let found = any_member (other p) (satisfiers index (apart_at index p j)) some in
            let parts = and_parts (set found.0) (not (eqb found.0 p)) found.1 in
            let same : found.0 ≡ p = h inside found.0 parts.0 (sym (member-places_where (hit_by p j) index.packages found.0) ∙ found.2) in
            false≢true (sym (not-true (eqb found.0 p) parts.1) ∙ eq-eqb found.0 p same))))
        | inr outside ↦ or_left (not (set p)) (not (list_any (other p) (satisfiers index (apart_at index p j)))) (not_from_false (set p) outside)
      ]
  test-from-holds (Only n) h = le-leb (count_by set (places_of index (name_at index n))) 1
      (count-from-one set (places_of index (name_at index n)) (rising-places_where (is_named (name_at index n)) index.packages) (λ q r inside also there too.
      h q r inside also (sym (member-places_where (is_named (name_at index n)) index.packages q) ∙ there) (sym (member-places_where (is_named (name_at index n)) index.packages r) ∙ too)))
