-- Cores of what is left without the causes of the cores before them.
use Rattle.std.proofs.Common.{◌≡◌, ◌≢◌, ℕ, zero, suc, ◌<◌, Bool, true, false, not, List, [], ◌∷◌, ◌++◌, All, map, length, Some, slice_get, refl, sym, subst, ◌∙◌, ap, inl, inr, arith}
use Rattle.std.specs.Prelude.{slice_index_or}
use Rattle.std.proofs.lemmas.Bool.{cases_Bool, false≢true, and_parts, and_from, or_cases, or_left, or_right, both_ways, not_from_false}
use Rattle.std.proofs.lemmas.List.Elements.{All-cons, All-nil}
use Rattle.std.proofs.lemmas.Option.{same_Some, slice_get_within, get_or_from_slice_get}
use Rattle.deb_index.specs.declared.constraint.Constraint.{Constraint}
use Rattle.deb_index.specs.Constraints.{Holds, constraints_of}
use Rattle.deb_index.specs.Packages.{IndexView}
use Rattle.number_sets.specs.Sets.{NumberSet, all_of, IsFirst, IsUpward, IsWithin, members_of}
use Rattle.number_sets.proofs.SetLemmas.{cut, first_once, first_within}
use Rattle.number_sets.proofs.RisingLists.{rising_once}
use Rattle.deb_health.specs.Causes.{AreCores, AreCoresWithout, cause_at, cause_in, causes_at, either, is_final_at, IsFirstWithout, nothing, without}
use Rattle.deb_health.specs.Health.{Admits, AdmitsNone, admits_none_upward, IsInstallable}
use Rattle.deb_health.specs.Verdicts.{IsFirstCore}
use Rattle.deb_health.proofs.CauseLemmas.{cause_not_empty}

-- ---- sets

pub without_within : (out set : NumberSet) → IsWithin (without out set) set
without_within out set k is_in = (and_parts (set k) (not (out k)) is_in).0

pub without_has : (out set : NumberSet) (k : ℕ) → set k ≡ true → out k ≡ false → without out set k ≡ true
without_has out set k is_in left = and_from (set k) (not (out k)) is_in (not_from_false (out k) left)

pub true_not_false : (b : Bool) → not b ≡ true → b ≡ false
true_not_false true never = absurd (false≢true never)
true_not_false false left = refl

pub without_left : (out set : NumberSet) (k : ℕ) → without out set k ≡ true → out k ≡ false
without_left out set k is_in = true_not_false (out k) ((and_parts (set k) (not (out k)) is_in).1)

-- of a larger set as much is left, or more
pub without_more : (out a b : NumberSet) → IsWithin a b → IsWithin (without out a) (without out b)
without_more out a b within k is_in = without_has out b k (within k (without_within out a k is_in)) (without_left out a k is_in)

-- where less is taken out, as much is left, or more
pub without_fewer : (less more set : NumberSet) → IsWithin less more → IsWithin (without more set) (without less set)
without_fewer less more set within k is_in =
    without_has less set k (without_within more set k is_in)
    (elim (cases_Bool (less k)) [
      | inl taken ↦ absurd (both_ways (more k) (without_left more set k is_in) (within k taken))
      | inr left ↦ left
    ])

-- where nothing is taken out, all is left
pub without_nothing : (out set : NumberSet) → ((k : ℕ) → out k ≡ false) → IsWithin set (without out set)
without_nothing out set none k is_in = without_has out set k is_in (none k)

either_cases : (a b : NumberSet) (k : ℕ) → either a b k ≡ true → (P : Type 0) → (a k ≡ true → P) → (b k ≡ true → P) → P
either_cases a b k is_in P left right = elim (or_cases (a k) (b k) is_in) [ inl first ↦ left first | inr second ↦ right second ]

left_assoc : (a b c : NumberSet) → IsWithin (either (either a b) c) (either a (either b c))
left_assoc a b c k is_in =
    either_cases (either a b) c k is_in (either a (either b c) k ≡ true)
    (λ front. either_cases a b k front (either a (either b c) k ≡ true) (λ first. or_left (a k) (either b c k) first) (λ second. or_right (a k) (either b c k) (or_left (b k) (c k) second)))
    (λ third. or_right (a k) (either b c k) (or_right (b k) (c k) third))

right_assoc : (a b c : NumberSet) → IsWithin (either a (either b c)) (either (either a b) c)
right_assoc a b c k is_in =
    either_cases a (either b c) k is_in (either (either a b) c k ≡ true)
    (λ first. or_left (either a b k) (c k) (or_left (a k) (b k) first))
    (λ back. either_cases b c k back (either (either a b) c k ≡ true) (λ second. or_left (either a b k) (c k) (or_right (a k) (b k) second)) (λ third. or_right (either a b k) (c k) third))

-- ---- cores

module _ (index : IndexView) (p : ℕ) where
  -- a part admits none where less of it does
  pub admits_none_more : (a b : NumberSet) → IsWithin a b → AdmitsNone index p a → AdmitsNone index p b
  admits_none_more a b = admits_none_upward index p a b

  pub admits_more : (a b : NumberSet) → IsWithin a b → Admits index p b → Admits index p a
  admits_more a b within admits = (admits.0, admits.1, λ k constraint asked there. admits.2 k constraint (within k asked) there)

  -- more of what is left admits none, too
  pub without_upward : (out : NumberSet) → IsUpward (λ set. AdmitsNone index p (without out set))
  without_upward out a b within = admits_none_more (without out a) (without out b) (without_more out a b within)

  -- a first core has nothing that is taken out
  pub core_left : (out : NumberSet) (core : List ℕ) → IsFirstWithout index p out core → (k : ℕ) → members_of core k ≡ true → out k ≡ false
  core_left out core first k is_in =
      let left : NumberSet = λ n. not (out n) in
      let same : members_of core ≡ cut (members_of core) left =
      first_within (λ set. AdmitsNone index p (without out set)) (members_of core) left first.first
      (admits_none_more (without out (members_of core)) (without out (cut (members_of core) left))
      (λ n here. without_has out (cut (members_of core) left) n here (without_left out (members_of core) n here)) first.first.0) in
      without_left out (members_of core) k (sym (ap (λ (s : NumberSet). s k) same) ∙ is_in)

  -- with all causes taken out some set meets the rest
  pub mended : (out : NumberSet) (cores : List (List ℕ)) → AreCoresWithout index p out cores → Admits index p (without (either out (causes_at index cores)) all_of)
  mended out [] admits =
      admits_more (without (either out nothing) all_of) (without out all_of) (without_fewer out (either out nothing) all_of (λ k taken. or_left (out k) false taken)) admits
  mended out (core ∷ later) cores =
      let first : NumberSet = cause_at index core in
      let rest : NumberSet = causes_at index later in
      admits_more (without (either out (either first rest)) all_of) (without (either (either out first) rest) all_of)
      (without_fewer (either (either out first) rest) (either out (either first rest)) all_of (left_assoc out first rest))
      (mended (either out first) later cores.1)

  -- with all but the last one none does
  pub unmended : (out : NumberSet) (cores : List (List ℕ)) (last : List ℕ) → AreCoresWithout index p out (cores ++ last ∷ []) → AdmitsNone index p (without (either out (causes_at index cores)) all_of)
  unmended out [] last cores =
      admits_none_more (without out (members_of last)) (without (either out nothing) all_of)
      (λ k is_in. without_has (either out nothing) all_of k refl (rw (without_left out (members_of last) k is_in) refl)) cores.0.first.0
  unmended out (core ∷ later) last cores =
      let first : NumberSet = cause_at index core in
      let rest : NumberSet = causes_at index later in
      admits_none_more (without (either (either out first) rest) all_of) (without (either out (either first rest)) all_of)
      (without_fewer (either out (either first rest)) (either (either out first) rest) all_of (right_assoc out first rest))
      (unmended (either out first) later last cores.1)

  -- each core admits none
  core_at : (out : NumberSet) (cores : List (List ℕ)) (i : ℕ) → i < length cores → AreCoresWithout index p out cores → AdmitsNone index p (members_of (slice_index_or cores i []))
  core_at out [] i inside cores = absurd (omega arith)
  core_at out (core ∷ later) zero inside cores = admits_none_more (without out (members_of core)) (members_of core) (without_within out (members_of core)) cores.0.first.0
  core_at out (core ∷ later) (suc i) inside cores = core_at (either out (cause_at index core)) later i (omega arith) cores.1

  -- as long as one cause is whole, none does, whatever else is taken out that is no need that some package meets
  pub one_whole : (cores : List (List ℕ)) (i : ℕ) (out : NumberSet) → AreCoresWithout index p nothing cores → i < length cores → IsWithin out (is_final_at index)
      → ((k : ℕ) → cause_at index (slice_index_or cores i []) k ≡ true → out k ≡ false) → AdmitsNone index p (without out all_of)
  one_whole cores i out are inside final whole =
      let core : NumberSet = members_of (slice_index_or cores i []) in
      admits_none_more core (without out all_of)
      (λ k is_in.
      without_has out all_of k refl
      (elim (cases_Bool (out k)) [
        | inl taken ↦ whole k (and_from (core k) (is_final_at index k) is_in (final k taken))
        | inr left ↦ left
      ]))
      (core_at nothing cores i inside are)

  -- no later core has what is taken out
  later_left : (out : NumberSet) (cores : List (List ℕ)) (j k : ℕ) → j < length cores → AreCoresWithout index p out cores → cause_at index (slice_index_or cores j []) k ≡ true → out k ≡ false
  later_left out [] j k inside cores is_in = absurd (omega arith)
  later_left out (core ∷ later) zero k inside cores is_in = core_left out core cores.0 k ((and_parts (members_of core k) (is_final_at index k) is_in).0)
  later_left out (core ∷ later) (suc j) k inside cores is_in =
      elim (cases_Bool (out k)) [
        | inl taken ↦
            absurd (both_ways (either out (cause_at index core) k) (later_left (either out (cause_at index core)) later j k (omega arith) cores.1 is_in) (or_left (out k) (cause_at index core k) taken))
        | inr left ↦ left
      ]

  -- two causes share no position
  pub causes_apart : (out : NumberSet) (cores : List (List ℕ)) (i j k : ℕ) → AreCoresWithout index p out cores → i < j → j < length cores
      → cause_at index (slice_index_or cores i []) k ≡ true → cause_at index (slice_index_or cores j []) k ≡ true → ⊥
  causes_apart out [] i j k cores less inside first second = absurd (omega arith)
  causes_apart out (core ∷ later) i zero k cores less inside first second = absurd (omega arith)
  causes_apart out (core ∷ later) zero (suc j) k cores less inside first second =
      both_ways (either out (cause_at index core) k) (later_left (either out (cause_at index core)) later j k (omega arith) cores.1 second) (or_right (out k) (cause_at index core k) first)
  causes_apart out (core ∷ later) (suc i) (suc j) k cores less inside first second = causes_apart (either out (cause_at index core)) later i j k cores.1 (omega arith) (omega arith) first second

  -- what is left has one list of cores
  cores_once : (out : NumberSet) (a b : List (List ℕ)) → AreCoresWithout index p out a → AreCoresWithout index p out b → a ≡ b
  cores_once out [] [] first second = refl
  cores_once out [] (core ∷ later) admits cores =
      absurd (without_upward out (members_of core) all_of (λ k is_in. refl) cores.0.first.0 admits)
  cores_once out (core ∷ later) [] cores admits =
      absurd (without_upward out (members_of core) all_of (λ k is_in. refl) cores.0.first.0 admits)
  cores_once out (core ∷ later) (other ∷ rest) first second =
      let sets : members_of core ≡ members_of other = first_once (λ set. AdmitsNone index p (without out set)) (members_of core) (members_of other) first.0.first second.0.first in
      let same : core ≡ other = rising_once core other first.0.rising second.0.rising (λ number. ap (λ (s : NumberSet). s number) sets) in
      let After : List ℕ → Type 0 = λ list. AreCoresWithout index p (either out (cause_at index list)) later in
      let tails : later ≡ rest = cores_once (either out (cause_at index other)) later rest (subst After same first.1) second.1 in
      ap (λ list. list ∷ later) same ∙ ap (λ lists. other ∷ lists) tails

  -- the first core of all constraints is the one of which nothing is taken out
  pub first_of_all : (out : NumberSet) (core : List ℕ) → ((k : ℕ) → out k ≡ false) → IsFirst (λ set. AdmitsNone index p (without out set)) (members_of core) → IsFirst (AdmitsNone index p) (members_of core)
  first_of_all out core none first = (
    admits_none_more (without out (members_of core)) (members_of core) (without_within out (members_of core)) first.0,
    λ other fails before. first.1 other (admits_none_more other (without out other) (without_nothing out other none) fails) before,
  )

-- ---- the constraints that stand there

one_some : {A : Type 0} (xs ys : List A) → map Some xs ≡ map Some ys → xs ≡ ys
one_some [] [] same = refl
one_some [] (y ∷ ys) same = cc
one_some (x ∷ xs) [] same = cc
one_some (x ∷ xs) (y ∷ ys) same =
    let here : Some x ≡ Some y = cc in
    let there : map Some xs ≡ map Some ys = cc in
    ap (λ z. z ∷ xs) (same_Some x y here) ∙ ap (λ zs. y ∷ zs) (one_some xs ys there)

all_some : {A : Type 0} (xs ys : List (List A)) → map (map Some) xs ≡ map (map Some) ys → xs ≡ ys
all_some [] [] same = refl
all_some [] (y ∷ ys) same = cc
all_some (x ∷ xs) [] same = cc
all_some (x ∷ xs) (y ∷ ys) same =
    let here : map Some x ≡ map Some y = cc in
    let there : map (map Some) xs ≡ map (map Some) ys = cc in
    ap (λ z. z ∷ xs) (one_some x y here) ∙ ap (λ zs. y ∷ zs) (all_some xs ys there)

module _ (index : IndexView) (p : ℕ) where
  pub one_list : (a b : List (List Constraint)) → AreCores index p a → AreCores index p b → a ≡ b
  one_list a b first second =
      let same : first.positions ≡ second.positions = cores_once index p nothing first.positions second.positions first.each_first second.each_first in
      all_some a b (sym first.stand_there ∙ (ap (map (map (slice_get (constraints_of index)))) same ∙ second.stand_there))

  pub each_cause : (out : NumberSet) (positions : List (List ℕ)) (cores : List (List Constraint)) → AreCoresWithout index p out positions
      → map (map (slice_get (constraints_of index))) positions ≡ map (map Some) cores → All (λ core. cause_in index core ≢ []) cores
  each_cause out [] [] chain stand = All-nil (λ core. cause_in index core ≢ [])
  each_cause out [] (core ∷ cores) chain stand = cc
  each_cause out (x ∷ xs) [] chain stand = cc
  each_cause out (x ∷ xs) (core ∷ cores) chain stand =
      let here : map (slice_get (constraints_of index)) x ≡ map Some core = cc in
      let there : map (map (slice_get (constraints_of index))) xs ≡ map (map Some) cores = cc in
      All-cons (λ core. cause_in index core ≢ []) core cores (cause_not_empty index p out x core chain.0 here) (each_cause (either out (cause_at index x)) xs cores chain.1 there)

  pub first_is_first : (core : List Constraint) (later : List (List Constraint)) → AreCores index p (core ∷ later) → IsFirstCore index p core
  first_is_first core later cores = by cores.positions cores.each_first cores.stand_there
    where
      by : (positions : List (List ℕ)) → AreCoresWithout index p nothing positions → map (map (slice_get (constraints_of index))) positions ≡ map (map Some) (core ∷ later) → IsFirstCore index p core
      by [] chain stand = cc
      by (x ∷ xs) chain stand =
          let here : map (slice_get (constraints_of index)) x ≡ map Some core = cc in
          record {
            positions = x;
            rising = chain.0.rising;
            first = first_of_all index p nothing x (λ k. refl) chain.0.first;
            stand_there = here;
          }

  -- a package that can be installed has none
  pub none_of_installable : IsInstallable index p → AreCores index p []
  none_of_installable installable = record {
    positions = [];
    each_first = (installable.0, installable.1.1, λ k constraint asked there. at_all k constraint there);
    stand_there = refl;
  }
    where
      at_all : (k : ℕ) (constraint : Constraint) → slice_get (constraints_of index) k ≡ Some constraint → Holds index installable.0 constraint
      at_all k constraint there =
          subst (Holds index installable.0) (get_or_from_slice_get (constraints_of index) k constraint constraint there)
          (installable.1.0 k constraint (slice_get_within (constraints_of index) k constraint there))

  pub installable_has_none : IsInstallable index p → (cores : List (List Constraint)) → AreCores index p cores → cores ≡ []
  installable_has_none installable cores are = one_list cores [] are (none_of_installable installable)
