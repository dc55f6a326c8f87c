-- What has the number of a cause is what is gathered of the cause.
use Rattle.std.proofs.Common.{◌≡◌, ℕ, ◌+◌, ◌<◌, ◌==◌, ◌&&◌, ◌||◌, Bool, true, false, cond, List, [], ◌∷◌, ◌++◌, All, filter, length, map, slice_get, Some, refl, sym, ap, ap₂, ◌∙◌, arith, inl, inr}
use Rattle.std.specs.Prelude.{count_by, slice_index_or}
use Rattle.std.specs.List.{flat_map, list_all, list_any}
use Rattle.std.specs.Option.{option_map_or}
use Rattle.std.specs.Str.{bytes_eq}
use Rattle.std.proofs.lemmas.Bool.{eqb-true, false≢true, or_cases}
use Rattle.std.proofs.lemmas.Bool.Decides.{nat_tests}
use Rattle.std.proofs.lemmas.List.{map-append}
use Rattle.std.proofs.lemmas.List.Elements.{All-head, All-tail, All-weaker}
use Rattle.std.proofs.lemmas.List.Sums.{sum_by-cons}
use Rattle.deb_index.specs.declared.constraint.Constraint.{Constraint}
use Rattle.deb_index.specs.Packages.{IndexView, first_of_each}
use Rattle.deb_index.proofs.TableLemmas.{IsApart}
use Rattle.deb_health.specs.Causes.{cause_in}
use Rattle.number_sets.proofs.ListLemmas.{map-twice}
use Rattle.deb_causes.specs.Causes.{cores_with, found_causes, gathered, has_cause, is_broken_by, is_freed_by, needs_in, same_cause, says_same, versions_in}
use Rattle.deb_causes.specs.Gathering.{cause_from, has_number, is_alone, part_of, share_of}
use Rattle.deb_causes.specs.Numbering.{unnumbered}
use Rattle.deb_causes.specs.Wrongs.{IsKnown, IsNumbered, key_of}
use Rattle.deb_causes.proofs.FirstOnes.{Starts, all-each, all-seen, any-seen, filter-seen}
use Rattle.deb_causes.proofs.SaidLemmas.{number-test, same-key}

-- ---- packages with and without numbers

pub cores-unnumbered : (packages : List (ℕ × List (ℕ × List Constraint))) → map (λ (core : ℕ × List Constraint). core.1) (flat_map (λ one. one.1) packages) ≡ flat_map (λ one. one.1) (map unnumbered packages)
cores-unnumbered [] = refl
cores-unnumbered (one ∷ packages) =
    map-append (λ (core : ℕ × List Constraint). core.1) one.1 (flat_map (λ one. one.1) packages)
    ∙ ap (λ rest. map (λ (core : ℕ × List Constraint). core.1) one.1 ++ rest) (cores-unnumbered packages)

pub causes-unnumbered : (index : IndexView) (packages : List (ℕ × List (ℕ × List Constraint)))
    → map (λ (core : ℕ × List Constraint). cause_in index core.1) (flat_map (λ one. one.1) packages) ≡ found_causes index (map unnumbered packages)
causes-unnumbered index [] = refl
causes-unnumbered index (one ∷ packages) =
    map-append (λ (core : ℕ × List Constraint). cause_in index core.1) one.1 (flat_map (λ one. one.1) packages)
    ∙ ap₂ (λ front rest. front ++ rest) (sym (map-twice (cause_in index) (λ (core : ℕ × List Constraint). core.1) one.1)) (causes-unnumbered index packages)

-- ---- the number of a cause tells what has it

pub number-tells : (index : IndexView) (texts keys : List (List ℕ)) (k : ℕ) (cause : List Constraint) (core : ℕ × List Constraint) → IsApart keys → slice_get keys k ≡ Some (key_of index texts cause)
    → All (IsKnown index texts) cause → IsNumbered index texts keys core → has_number k core ≡ has_cause index cause core.1
number-tells index texts keys k cause core apart at known is =
    let key = key_of index texts (cause_in index core.1) in
    number-test key keys core.0 k apart is.number
    ∙ ap (λ o. option_map_or (λ other. bytes_eq other key) o false) at
    ∙ same-key index texts cause (cause_in index core.1) known is.known

-- ---- all cores of a package have one number

alone-is : (k : ℕ) (cores : List (ℕ × List Constraint)) → list_any (has_number k) cores ≡ true → is_alone cores ≡ list_all (has_number k) cores
alone-is k [] some = refl
alone-is k (core ∷ cores) some = by (core.0 == k) refl
  where
    differ : (m : ℕ) (xs : List (ℕ × List Constraint)) → list_any (has_number k) xs ≡ true → (m == k) ≡ false → list_all (has_number m) xs ≡ false
    differ m [] some other = absurd (false≢true some)
    differ m (x ∷ xs) some other =
        elim (or_cases (x.0 == k) (list_any (has_number k) xs) some) [
          | inl here ↦
              let unlike : (x.0 == m) ≡ false = turned x.0 m (eqb-true x.0 k here) other in
              rw unlike refl
          | inr later ↦ ap (λ b. (x.0 == m) && b) (differ m xs later other) ∙ and_false (x.0 == m)
        ]
      where
        turned : (n m : ℕ) → n ≡ k → (m == k) ≡ false → (n == m) ≡ false
        turned n m is other = grind (arith, nat_tests)

        and_false : (b : Bool) → (b && false) ≡ false
        and_false true = refl
        and_false false = refl

    by : (t : Bool) → (core.0 == k) ≡ t → is_alone (core ∷ cores) ≡ list_all (has_number k) (core ∷ cores)
    by true e = ap (λ n. list_all (has_number n) cores) (eqb-true core.0 k e) ∙ ap (λ b. b && list_all (has_number k) cores) (sym e)
    by false e =
        let behind : list_any (has_number k) cores ≡ true = ap (λ b. b || list_any (has_number k) cores) (sym e) ∙ some in
        differ core.0 cores behind e ∙ ap (λ b. b && list_all (has_number k) cores) (sym e)

-- ---- what is gathered of it

module _ (index : IndexView) (k : ℕ) (cause : List Constraint) where
  abbrev pub Tells : ℕ × List Constraint → Type 0
  Tells core = has_number k core ≡ has_cause index cause core.1

  abbrev own : ℕ × List (ℕ × List Constraint) → Bool
  own one = list_any (has_number k) one.1

  broken-is : (one : ℕ × List (ℕ × List Constraint)) → All Tells one.1 → own one ≡ is_broken_by index cause (unnumbered one)
  broken-is one all = any-seen (has_number k) (has_cause index cause) (λ (core : ℕ × List Constraint). core.1) one.1 all

  pub cores-are : (packages : List (ℕ × List (ℕ × List Constraint))) → All Tells (flat_map (λ one. one.1) packages) → (part_of packages k).cores ≡ cores_with index (map unnumbered packages) cause
  unfolding cores_with
  cores-are packages all =
      filter-seen (has_number k) (has_cause index cause) (λ (core : ℕ × List Constraint). core.1) (flat_map (λ one. one.1) packages) all
      ∙ ap (filter (has_cause index cause)) (cores-unnumbered packages)

  places-are : (packages : List (ℕ × List (ℕ × List Constraint))) → All (λ one. All Tells one.1) packages
      → map (λ (share : ℕ × Bool). share.0) (part_of packages k).shares ≡ map (λ (one : ℕ × List (List Constraint)). one.0) (filter (is_broken_by index cause) (map unnumbered packages))
  places-are packages all =
      map-twice (λ (share : ℕ × Bool). share.0) share_of (filter own packages)
      ∙ sym (map-twice (λ (one : ℕ × List (List Constraint)). one.0) unnumbered (filter own packages))
      ∙ ap (map (λ (one : ℕ × List (List Constraint)). one.0))
      (filter-seen own (is_broken_by index cause) unnumbered packages (All-weaker (λ one. All Tells one.1) (λ one. own one ≡ is_broken_by index cause (unnumbered one)) broken-is packages all))

  frees-are : (packages : List (ℕ × List (ℕ × List Constraint))) → All (λ one. All Tells one.1) packages
      → count_by (λ (share : ℕ × Bool). share.1) (part_of packages k).shares ≡ count_by (is_freed_by index cause) (map unnumbered packages)
  frees-are [] all = refl
  frees-are (one ∷ packages) all = by (own one) refl (frees-are packages (All-tail (λ one. All Tells one.1) one packages all))
    where
      here : All Tells one.1
      here = All-head (λ one. All Tells one.1) one packages all

      one-more : (b : Bool) (n : ℕ) → cond b 1 0 + n ≡ cond b (1 + n) n
      one-more true n = refl
      one-more false n = omega arith

      counted : {A : Type 0} (p : A → Bool) (x : A) (xs : List A) → count_by p (x ∷ xs) ≡ cond (p x) (1 + count_by p xs) (count_by p xs)
      counted p x xs = sum_by-cons (λ y. cond (p y) 1 0) x xs ∙ one-more (p x) (count_by p xs)

      freed : own one ≡ true → is_alone one.1 ≡ is_freed_by index cause (unnumbered one)
      freed e =
          alone-is k one.1 e ∙ all-seen (has_number k) (has_cause index cause) (λ (core : ℕ × List Constraint). core.1) one.1 here
          ∙ ap (λ b. b && list_all (has_cause index cause) (unnumbered one).1) (sym e ∙ broken-is one here)

      kept : own one ≡ false → is_freed_by index cause (unnumbered one) ≡ false
      kept e = ap (λ b. b && list_all (has_cause index cause) (unnumbered one).1) (sym (broken-is one here) ∙ e)

      by : (t : Bool) → own one ≡ t → count_by (λ (share : ℕ × Bool). share.1) (map share_of (filter own packages)) ≡ count_by (is_freed_by index cause) (map unnumbered packages)
          → count_by (λ (share : ℕ × Bool). share.1) (part_of (one ∷ packages) k).shares ≡ count_by (is_freed_by index cause) (map unnumbered (one ∷ packages))
      by true e rest =
          ap (λ b. count_by (λ (share : ℕ × Bool). share.1) (map share_of (cond b (one ∷ filter own packages) (filter own packages)))) e
          ∙ counted (λ (share : ℕ × Bool). share.1) (share_of one) (map share_of (filter own packages))
          ∙ ap₂ (λ b n. cond b (1 + n) n) (freed e) rest
          ∙ sym (counted (is_freed_by index cause) (unnumbered one) (map unnumbered packages))
      by false e rest =
          ap (λ b. count_by (λ (share : ℕ × Bool). share.1) (map share_of (cond b (one ∷ filter own packages) (filter own packages)))) e
          ∙ rest
          ∙ ap (λ b. cond b (1 + (count_by (is_freed_by index cause) (map unnumbered packages))) (count_by (is_freed_by index cause) (map unnumbered packages))) (sym (kept e))
          ∙ sym (counted (is_freed_by index cause) (unnumbered one) (map unnumbered packages))

  -- ---- the first of its cores has the cause

  filter-causes : (cores : List (List Constraint)) → map (cause_in index) (filter (has_cause index cause) cores) ≡ filter (same_cause index cause) (map (cause_in index) cores)
  filter-causes [] = refl
  filter-causes (core ∷ cores) = by (has_cause index cause core) refl (filter-causes cores)
    where
      by : (t : Bool) → has_cause index cause core ≡ t → map (cause_in index) (filter (has_cause index cause) cores) ≡ filter (same_cause index cause) (map (cause_in index) cores)
          → map (cause_in index) (filter (has_cause index cause) (core ∷ cores)) ≡ filter (same_cause index cause) (map (cause_in index) (core ∷ cores))
      by true e rest = rw e (ap (λ others. cause_in index core ∷ others) rest)
      by false e rest = rw e rest

  causes-with : (broken : List (ℕ × List (List Constraint))) → map (cause_in index) (cores_with index broken cause) ≡ filter (same_cause index cause) (found_causes index broken)
  unfolding cores_with
  causes-with broken = filter-causes (flat_map (λ one. one.1) broken) ∙ ap (filter (same_cause index cause)) (flat broken)
    where
      flat : (broken : List (ℕ × List (List Constraint))) → map (cause_in index) (flat_map (λ one. one.1) broken) ≡ found_causes index broken
      flat [] = refl
      flat (one ∷ others) = map-append (cause_in index) one.1 (flat_map (λ one. one.1) others) ∙ ap (λ rest. map (cause_in index) one.1 ++ rest) (flat others)

  first-core : (cores rest : List (List Constraint)) → map (cause_in index) cores ≡ cause ∷ rest → (cause_in index (slice_index_or cores 0 []) ≡ cause) × (0 < length cores)
  first-core [] rest e = cc
  first-core (core ∷ cores) rest e = let here : cause_in index core ≡ cause = cc in (here, omega arith)

  -- ---- all of it

  pub part-some : (packages : List (ℕ × List (ℕ × List Constraint))) → All Tells (flat_map (λ one. one.1) packages) → Starts (same_cause index) (found_causes index (map unnumbered packages)) cause
      → (cause_in index (slice_index_or (part_of packages k).cores 0 []) ≡ cause) × (0 < length (part_of packages k).cores)
  part-some packages all starts =
      first-core (part_of packages k).cores starts.0 (ap (map (cause_in index)) (cores-are packages all) ∙ causes-with (map unnumbered packages) ∙ starts.1)

  pub part-gathered : (packages : List (ℕ × List (ℕ × List Constraint))) → All Tells (flat_map (λ one. one.1) packages) → Starts (same_cause index) (found_causes index (map unnumbered packages)) cause
      → cause_from index (part_of packages k) ≡ gathered index (map unnumbered packages) cause
  part-gathered packages all starts =
      let each = all-each Tells (λ (one : ℕ × List (ℕ × List Constraint)). one.1) packages all in
      let cores = cores-are packages all in
      let first = (part-some packages all starts).0 in
      let places = places-are packages each in
      let frees = frees-are packages each in
      λ i. record {
        constraints = first_of_each (says_same index) (first i);
        places = places i;
        frees = frees i;
        needs = needs_in index (cores i);
        versions = versions_in index (cores i);
      }
