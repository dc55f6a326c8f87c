-- The causes of broken packages are those of what has their numbers.
use Rattle.std.proofs.Common.{◌≡◌, ℕ, zero, suc, ◌+◌, ◌<◌, ◌≤◌, ◌&&◌, Bool, true, false, List, [], ◌∷◌, All, filter, length, map, slice_get, get_or, Some, refl, sym, ap, ◌∙◌, subst, arith}
use Rattle.std.specs.List.{flat_map, list_all, list_any}
use Rattle.std.specs.Option.{option_map}
use Rattle.std.specs.Str.{bytes_eq}
use Rattle.std.proofs.lemmas.List.{length-map}
use Rattle.std.proofs.lemmas.List.Elements.{All-append, All-filter, All-head, All-map, All-nil, All-same, All-tail, All-weaker}
use Rattle.std.proofs.lemmas.List.FromFn.{get_or-range_with_len, length-range_with_len}
use Rattle.std.proofs.lemmas.Option.{slice_get-map}
use Rattle.deb_index.specs.declared.constraint.Constraint.{Constraint}
use Rattle.deb_index.specs.Constraints.{IsOfIndex, below, constraints_of}
use Rattle.deb_index.specs.Packages.{IndexView, first_of_each}
use Rattle.deb_index.proofs.ConstraintLemmas.{constraints-within}
use Rattle.deb_index.proofs.EnumerateLemmas.{filter-length}
use Rattle.deb_index.proofs.TableLemmas.{IsApart, number-within}
use Rattle.deb_health.specs.Causes.{cause_in, is_final}
use Rattle.deb_health.specs.Verdicts.{ToldView, IsAskedOf}
use Rattle.number_sets.proofs.ListLemmas.{all_seen, map-twice}
use Rattle.deb_causes.specs.declared.gathered.Cause.{Cause}
use Rattle.deb_causes.specs.declared.gathered.Part.{Part}
use Rattle.deb_causes.specs.declared.gathered.NumberedCore.{NumberedCore}
use Rattle.deb_causes.specs.declared.gathered.NumberedPackage.{NumberedPackage}
use Rattle.deb_causes.specs.declared.wrongs.Wrongs.{Wrongs}
use Rattle.deb_causes.specs.Causes.{CauseView, IsCauseOf, by_count, by_first, causes_list, cause_view, cores_of, cores_with, found_causes, gathered, has_cause, has_count, is_broken_by, is_need, is_said, is_version_in, needs_in, same_cause, same_constraint, says, says_same, versions_in}
use Rattle.deb_causes.specs.Gathering.{cause_from, PartView, has_number, part_of, part_view}
use Rattle.deb_causes.specs.Numbering.{core_view, package_view, unnumbered, StandOnce}
use Rattle.deb_causes.specs.Wrongs.{IsKnown, IsNumbered, key_of, AreNumbered, causes_of, said_of}
use Rattle.deb_causes.proofs.FirstOnes.{Starts, all-each, all-get, first-kept, first-keyed, first-starts, range-all, range-seen}
use Rattle.deb_causes.proofs.NumberingLemmas.{front-same}
use Rattle.deb_causes.proofs.PartLemmas.{causes-unnumbered, cores-unnumbered, number-tells, part-gathered, part-some}
use Rattle.deb_causes.proofs.SaidLemmas.{once-apart, said-itself, same-key}
use Rattle.deb_causes.proofs.WrongsLemmas.{cores-within}

-- ---- two causes are one

same-itself : (index : IndexView) (cause : List Constraint) → same_cause index cause cause ≡ true
same-itself index cause = ap (λ b. b && list_all (is_said index cause) cause) (said-itself index cause) ∙ said-itself index cause

pub same-turned : (index : IndexView) (a b : List Constraint) → same_cause index a b ≡ same_cause index b a
same-turned index a b = turned (list_all (is_said index b) a) (list_all (is_said index a) b)
  where
    turned : (p q : Bool) → (p && q) ≡ (q && p)
    turned true true = refl
    turned true false = refl
    turned false true = refl
    turned false false = refl

-- ---- each part is that of a cause

module _ (index : IndexView) (old new : Wrongs) (packages : List (ℕ × List (ℕ × List Constraint))) (numbered : AreNumbered index old new (flat_map (λ one. one.1) packages)) (no_said : said_of old ≡ []) (no_causes : causes_of old ≡ []) where
  none : {xs : List (List ℕ)} → xs ≡ [] → xs ≡ first_of_each bytes_eq []
  unfolding first_of_each
  none e = e

  once : StandOnce (said_of new)
  once = (flat_map (λ (core : ℕ × List Constraint). map (says index) (cause_in index core.1)) (flat_map (λ one. one.1) packages), numbered.said.firsts [] (none no_said))

  abbrev key : List Constraint → List ℕ
  key cause = key_of index (said_of new) cause

  keys-first : causes_of new ≡ first_of_each bytes_eq (map (λ (core : ℕ × List Constraint). key (cause_in index core.1)) (flat_map (λ one. one.1) packages))
  keys-first = (numbered.causes (said_of new) once (front-same (said_of new))).firsts [] (none no_causes)

  keys-apart : IsApart (causes_of new)
  keys-apart = once-apart (causes_of new) (map (λ (core : ℕ × List Constraint). key (cause_in index core.1)) (flat_map (λ one. one.1) packages), keys-first)

  each-numbered : All (IsNumbered index (said_of new) (causes_of new)) (flat_map (λ one. one.1) packages)
  each-numbered = numbered.each (said_of new) (causes_of new) once (front-same (said_of new)) (front-same (causes_of new))

  abbrev found : List (List Constraint)
  found = found_causes index (map unnumbered packages)

  abbrev distinct : List (List Constraint)
  distinct = first_of_each (same_cause index) found

  known : All (All (IsKnown index (said_of new))) found
  known =
      let P : List Constraint → Type 0 = All (IsKnown index (said_of new)) in
      subst (All P) (causes-unnumbered index packages)
      (All-map P (λ (core : ℕ × List Constraint). cause_in index core.1) (flat_map (λ one. one.1) packages)
      (All-weaker (IsNumbered index (said_of new) (causes_of new)) (λ core. P (cause_in index core.1)) (λ core is. is.known) (flat_map (λ one. one.1) packages) each-numbered))

  keys-are : causes_of new ≡ map key distinct
  keys-are =
      keys-first
      ∙ ap (first_of_each bytes_eq) (sym (map-twice key (λ (core : ℕ × List Constraint). cause_in index core.1) (flat_map (λ one. one.1) packages)) ∙ ap (map key) (causes-unnumbered index packages))
      ∙ first-keyed (same_cause index) key (All (IsKnown index (said_of new))) (λ a b. same-key index (said_of new) a b) found known

  size : length (causes_of new) ≡ length distinct
  size = ap length keys-are ∙ length-map distinct key

  tells : (k : ℕ) (cause : List Constraint) → slice_get distinct k ≡ Some cause → All (λ core. has_number k core ≡ has_cause index cause core.1) (flat_map (λ one. one.1) packages)
  tells k cause at =
      let key_at : slice_get (causes_of new) k ≡ Some (key cause) = ap (λ keys. slice_get keys k) keys-are ∙ slice_get-map key distinct k ∙ ap (option_map key) at in
      let own : All (IsKnown index (said_of new)) cause =
      all-get (All (IsKnown index (said_of new))) distinct k cause (first-kept (same_cause index) (All (IsKnown index (said_of new))) found known) at in
      All-weaker (IsNumbered index (said_of new) (causes_of new)) (λ core. has_number k core ≡ has_cause index cause core.1)
      (λ core is. number-tells index (said_of new) (causes_of new) k cause core keys-apart key_at own is) (flat_map (λ one. one.1) packages) each-numbered

  starts : (k : ℕ) (cause : List Constraint) → slice_get distinct k ≡ Some cause → Starts (same_cause index) found cause
  starts k cause at = all-get (Starts (same_cause index) found) distinct k cause (first-starts (same_cause index) (same-itself index) (same-turned index) found) at

  pub parts-causes : map (cause_from index) (map (part_of packages) (below (length (causes_of new)))) ≡ by_first index (map unnumbered packages)
  unfolding by_first
  parts-causes =
      map-twice (cause_from index) (part_of packages) (below (length (causes_of new)))
      ∙ ap (λ n. map (λ k. cause_from index (part_of packages k)) (below n)) size
      ∙ range-seen (λ k. cause_from index (part_of packages k)) (gathered index (map unnumbered packages)) distinct 0
      (λ k cause at. let here : 0 + k ≡ k = omega arith in
      ap (λ j. cause_from index (part_of packages j)) here ∙ part-gathered index k cause packages (tells k cause at) (starts k cause at))

  pub parts-some : All (λ (part : PartView). 0 < length part.cores) (map (part_of packages) (below (length (causes_of new))))
  parts-some =
      subst (λ n. All (λ (part : PartView). 0 < length part.cores) (map (part_of packages) (below n))) (sym size)
      (range-all (λ (part : PartView). 0 < length part.cores) (part_of packages) distinct 0
      (λ k cause at. let here : k ≡ 0 + k = omega arith in
      subst (λ j. 0 < length (part_of packages j).cores) here (part-some index k cause packages (tells k cause at) (starts k cause at)).1))

  pub numbers-within : All (λ (core : ℕ × List Constraint). core.0 < length (causes_of new)) (flat_map (λ one. one.1) packages)
  numbers-within =
      All-weaker (IsNumbered index (said_of new) (causes_of new)) (λ core. core.0 < length (causes_of new))
      (λ core is. number-within (key (cause_in index core.1)) (causes_of new) core.0 is.number) (flat_map (λ one. one.1) packages) each-numbered

-- ---- what is told is of the index

pub parts-within : (index : IndexView) (packages : List (ℕ × List (ℕ × List Constraint))) (count : ℕ) → All (All (IsOfIndex index)) (flat_map (λ one. one.1) (map unnumbered packages))
    → All (λ (part : PartView). All (All (IsOfIndex index)) part.cores) (map (part_of packages) (below count))
parts-within index packages count all =
    let P : List Constraint → Type 0 = All (IsOfIndex index) in
    let each : All (λ (core : ℕ × List Constraint). P core.1) (flat_map (λ one. one.1) packages) =
    all_seen P (λ (core : ℕ × List Constraint). core.1) (flat_map (λ one. one.1) packages) (subst (All P) (sym (cores-unnumbered packages)) all) in
    let own : (k : ℕ) → All P (part_of packages k).cores =
    λ k. All-map P (λ (core : ℕ × List Constraint). core.1) (filter (has_number k) (flat_map (λ one. one.1) packages))
    (All-filter (has_number k) (λ (core : ℕ × List Constraint). P core.1) (flat_map (λ one. one.1) packages) each) in
    All-map (λ (part : PartView). All P part.cores) (part_of packages) (below count) (λ i d inside. own (get_or (below count) i d))

pub told-within : (index : IndexView) (told : List (ℕ × ToldView)) → All (IsAskedOf index) told
    → All (All (IsOfIndex index)) (flat_map (λ one. one.1) (map cores_of told))
told-within index [] all = All-nil (All (IsOfIndex index))
told-within index (one ∷ told) all =
    All-append (All (IsOfIndex index)) (cores_of one).1 (flat_map (λ one. one.1) (map cores_of told))
    (cores-within index one (All-head (IsAskedOf index) one told all)) (told-within index told (All-tail (IsAskedOf index) one told all))

found-within : (index : IndexView) (broken : List (ℕ × List (List Constraint))) → All (λ one. All (All (IsOfIndex index)) one.1) broken → All (All (IsOfIndex index)) (found_causes index broken)
found-within index [] all = All-nil (All (IsOfIndex index))
found-within index (one ∷ broken) all =
    let P : List Constraint → Type 0 = All (IsOfIndex index) in
    All-append P (map (cause_in index) one.1) (found_causes index broken)
    (All-map P (cause_in index) one.1
    (All-weaker P (λ core. P (cause_in index core)) (λ core within. All-filter (is_final index) (IsOfIndex index) core within) one.1 (All-head (λ (one : ℕ × List (List Constraint)). All P one.1) one broken all)))
    (found-within index broken (All-tail (λ (one : ℕ × List (List Constraint)). All P one.1) one broken all))

places-within : (index : IndexView) (told : List (ℕ × ToldView)) → All (IsAskedOf index) told → All (λ (one : ℕ × List (List Constraint)). one.0 < length index.packages) (map cores_of told)
places-within index told all =
    All-map (λ (one : ℕ × List (List Constraint)). one.0 < length index.packages) cores_of told
    (All-weaker (IsAskedOf index) (λ one. (cores_of one).0 < length index.packages) (λ one asked. asked.0) told all)

all-below : (n : ℕ) → All (λ k. k < n) (below n)
all-below n k d h =
    let few : k < n = omega (arith, length-range_with_len 0 n) in
    let same : 0 + k ≡ k = omega arith in
    subst (λ j. j < n) (sym (get_or-range_with_len 0 n k d few ∙ same)) few

gathered-within : (index : IndexView) (broken : List (ℕ × List (List Constraint))) (cause : List Constraint) → All (λ (one : ℕ × List (List Constraint)). one.0 < length index.packages) broken → All (IsOfIndex index) cause
    → IsCauseOf index (gathered index broken cause)
unfolding needs_in versions_in
gathered-within index broken cause places of = record {
  constraints = first-kept (says_same index) (IsOfIndex index) cause of;
  places =
      All-map (λ place. place < length index.packages) (λ (one : ℕ × List (List Constraint)). one.0) (filter (is_broken_by index cause) broken)
      (All-filter (is_broken_by index cause) (λ (one : ℕ × List (List Constraint)). one.0 < length index.packages) broken places);
  needs = All-filter (λ one. is_need one && list_any (same_constraint one) (flat_map (cause_in index) (cores_with index broken cause))) (IsOfIndex index) (constraints_of index) (constraints-within index);
  versions = All-filter (λ place. list_any (is_version_in index place) (cores_with index broken cause)) (λ place. place < length index.packages) (below (length index.packages)) (all-below (length index.packages));
}

pub count-kept : (P : CauseView → Type 0) (n : ℕ) (causes : List CauseView) → All P causes → All P (by_count n causes)
unfolding by_count
count-kept P zero causes all = All-filter (has_count 0) P causes all
count-kept P (suc n) causes all = All-append P (filter (has_count (suc n)) causes) (by_count n causes) (All-filter (has_count (suc n)) P causes all) (count-kept P n causes all)

pub causes-within : (index : IndexView) (told : List (ℕ × ToldView)) → All (IsAskedOf index) told → All (IsCauseOf index) (causes_list index told)
unfolding by_first causes_list
causes-within index told all =
    let broken : List (ℕ × List (List Constraint)) = map cores_of told in
    let cores = all-each (All (IsOfIndex index)) (λ (one : ℕ × List (List Constraint)). one.1) broken (told-within index told all) in
    let distinct : List (List Constraint) = first_of_each (same_cause index) (found_causes index broken) in
    count-kept (IsCauseOf index) (length told) (by_first index broken)
    (All-map (IsCauseOf index) (gathered index broken) distinct
    (All-weaker (All (IsOfIndex index)) (λ cause. IsCauseOf index (gathered index broken cause)) (λ cause of. gathered-within index broken cause (places-within index told all) of) distinct
    (first-kept (same_cause index) (All (IsOfIndex index)) (found_causes index broken) (found-within index broken cores))))

-- ---- no cause has more packages than there are

pub few-places : (index : IndexView) (broken : List (ℕ × List (List Constraint))) → All (λ (cause : CauseView). length cause.places ≤ length broken) (by_first index broken)
unfolding by_first
few-places index broken =
    All-map (λ (cause : CauseView). length cause.places ≤ length broken) (gathered index broken) (first_of_each (same_cause index) (found_causes index broken))
    (λ i d inside. few (get_or (first_of_each (same_cause index) (found_causes index broken)) i d))
  where
    few : (cause : List Constraint) → length (gathered index broken cause).places ≤ length broken
    few cause =
        let kept : length (filter (is_broken_by index cause) broken) ≤ length broken = filter-length (is_broken_by index cause) broken in
        let seen : length (gathered index broken cause).places ≡ length (filter (is_broken_by index cause) broken) =
        length-map (filter (is_broken_by index cause) broken) (λ (one : ℕ × List (List Constraint)). one.0) in
        omega arith

-- ---- as the code has them

pub numbers-below : (packages : List NumberedPackage) (count : ℕ) → All (λ (core : ℕ × List Constraint). core.0 < count) (flat_map (λ one. one.1) (map package_view packages))
    → All (λ (one : NumberedPackage). All (λ (core : NumberedCore). core.number < count) one.cores.items) packages
numbers-below packages count all =
    let P : ℕ × List Constraint → Type 0 = λ core. core.0 < count in
    All-weaker (λ (one : NumberedPackage). All P (package_view one).1) (λ (one : NumberedPackage). All (λ (core : NumberedCore). core.number < count) one.cores.items)
    (λ one each. all_seen P core_view one.cores.items each) packages
    (all_seen (λ (one : ℕ × List (ℕ × List Constraint)). All P one.1) package_view packages (all-each P (λ (one : ℕ × List (ℕ × List Constraint)). one.1) (map package_view packages) all))

pub some-cores : (parts : List Part) (views : List PartView) → map part_view parts ≡ views → All (λ (part : PartView). 0 < length part.cores) views → All (λ (part : Part). 0 < length part.cores.items) parts
some-cores parts views are all =
    All-weaker (λ (part : Part). 0 < length (part_view part).cores) (λ (part : Part). 0 < length part.cores.items)
    (λ part some. let size : length (part_view part).cores ≡ length part.cores.items = length-map part.cores.items (λ core. core.now) in subst (λ n. 0 < n) size some) parts
    (all_seen (λ (part : PartView). 0 < length part.cores) part_view parts (All-same (λ (part : PartView). 0 < length part.cores) (map part_view parts) views are all))

pub cores-own : (index : IndexView) (parts : List Part) (views : List PartView) → map part_view parts ≡ views → All (λ (part : PartView). All (All (IsOfIndex index)) part.cores) views
    → All (λ (part : Part). All (λ core. All (IsOfIndex index) core.now) part.cores.items) parts
cores-own index parts views are all =
    let P : PartView → Type 0 = λ part. All (All (IsOfIndex index)) part.cores in
    All-weaker (λ (part : Part). P (part_view part)) (λ (part : Part). All (λ core. All (IsOfIndex index) core.now) part.cores.items)
    (λ part each. all_seen (All (IsOfIndex index)) (λ core. core.now) part.cores.items each) parts
    (all_seen P part_view parts (All-same P (map part_view parts) views are all))

pub few-places-of : (index : IndexView) (told : List (ℕ × ToldView)) (causes : List Cause) → map cause_view causes ≡ by_first index (map cores_of told)
    → All (λ (cause : Cause). length cause.places.items ≤ length told) causes
few-places-of index told causes are =
    let few = subst (λ n. All (λ (cause : CauseView). length cause.places ≤ n) (by_first index (map cores_of told))) (length-map told cores_of) (few-places index (map cores_of told)) in
    all_seen (λ (cause : CauseView). length cause.places ≤ length told) cause_view causes
    (All-same (λ (cause : CauseView). length cause.places ≤ length told) (map cause_view causes) (by_first index (map cores_of told)) are few)

pub listed : (index : IndexView) (told : List (ℕ × ToldView)) (causes : List CauseView) → causes ≡ by_first index (map cores_of told)
    → by_count (length told) causes ≡ causes_list index told
unfolding causes_list
listed index told causes are = ap (by_count (length told)) are
