-- The causes of broken packages: what is wrong, whoever needs it, and the packages that it breaks.
use Rattle.std.specs.Prelude.{ℕ, ◌==◌, ◌<◌, Bool, true, false, ◌&&◌, All, List, [], ◌∷◌, ◌++◌, count_by, length, map, filter, ◌≡◌, slice_get}
use Prim.Native.Nat.{zero, suc}
use Rattle.std.specs.List.{flat_map, list_all, list_any}
use Rattle.std.specs.Str.{bytes_eq}
use Rattle.deb_index.specs.declared.constraint.Constraint.{Constraint}
use Rattle.deb_index.specs.declared.constraint.Constraint.TheVariants.{Essential, Need, Apart, Only}
use Rattle.deb_index.specs.Constraints.{IsOfIndex, answers, below, constraints_of, has_name}
use Rattle.deb_index.specs.Packages.{IndexView, first_of_each, need_at}
use Rattle.deb_health.specs.Causes.{cause_in, AreCores, without}
use Rattle.deb_health.specs.Verdicts.{ToldView, cores_in}
use Rattle.deb_causes.specs.declared.gathered.Cause.{Cause}
use Rattle.deb_relation.specs.Relationship.{group_text}
use Rattle.std.specs.Option.{option_map_or}
use Rattle.number_sets.specs.Sets.{NumberSet, all_of}
use Rattle.deb_health.specs.Health.{Admits}

-- ---- what is wrong

-- what a constraint says is wrong, whoever needs it, in numbers that tell it from all else: of a need the alternatives as they are printed, of an entry which
-- entry of which package it is, else the name
unfoldable pub says : IndexView → Constraint → List ℕ
says index (Essential name) = 0 ∷ name ∷ []
says index (Need place number) = 1 ∷ group_text (need_at index place number)
says index (Apart place number) = 2 ∷ place ∷ number ∷ []
says index (Only name) = 3 ∷ name ∷ []

-- the two say the same
abbrev pub says_same : IndexView → Constraint → Constraint → Bool
says_same index one other = bytes_eq (says index one) (says index other)

-- one of the constraints says the same
abbrev pub is_said : IndexView → List Constraint → Constraint → Bool
is_said index constraints one = list_any (says_same index one) constraints

-- the two causes are one: they say the same
abbrev pub same_cause : IndexView → List Constraint → List Constraint → Bool
same_cause index one other = list_all (is_said index other) one && list_all (is_said index one) other

-- ---- the cores of broken packages

-- an asked place, and the cores that are told of it
abbrev pub cores_of : ℕ × ToldView → ℕ × List (List Constraint)
cores_of one = (one.0, cores_in one.1)

-- the core has the cause
abbrev pub has_cause : IndexView → List Constraint → List Constraint → Bool
has_cause index cause core = same_cause index cause (cause_in index core)

-- the package has the cause among its causes
abbrev pub is_broken_by : IndexView → List Constraint → ℕ × List (List Constraint) → Bool
is_broken_by index cause broken = list_any (has_cause index cause) broken.1

-- the package has the cause, and no other one
abbrev pub is_freed_by : IndexView → List Constraint → ℕ × List (List Constraint) → Bool
is_freed_by index cause broken = is_broken_by index cause broken && list_all (has_cause index cause) broken.1

-- the cores that have it, of all these packages
unfoldable pub cores_with : IndexView → List (ℕ × List (List Constraint)) → List Constraint → List (List Constraint)
cores_with index broken cause = filter (has_cause index cause) (flat_map (λ one. one.1) broken)

-- ---- what is told of such cores

-- the two constraints are one
abbrev pub same_constraint : Constraint → Constraint → Bool
same_constraint (Essential m) (Essential n) = m == n
same_constraint (Need p j) (Need q k) = p == q && j == k
same_constraint (Apart p j) (Apart q k) = p == q && j == k
same_constraint (Only m) (Only n) = m == n
same_constraint _ _ = false

abbrev pub is_need : Constraint → Bool
is_need (Essential name) = false
is_need (Need place number) = true
is_need (Apart place number) = false
is_need (Only name) = false

-- the needs among the causes of the cores, each once, in the order of the index
unfoldable pub needs_in : IndexView → List (List Constraint) → List Constraint
needs_in index cores = filter (λ one. is_need one && list_any (same_constraint one) (flat_map (cause_in index) cores)) (constraints_of index)

-- the constraint says that there may be one version of the package's name
abbrev pub is_version_of : IndexView → ℕ → Constraint → Bool
is_version_of index place (Essential name) = false
is_version_of index place (Need needing number) = false
is_version_of index place (Apart apart number) = false
is_version_of index place (Only name) = has_name index place name

-- the package answers the constraint, which is a need
abbrev pub is_answer_to : IndexView → ℕ → Constraint → Bool
is_answer_to index place (Essential name) = false
is_answer_to index place (Need needing number) = answers index needing number place
is_answer_to index place (Apart apart number) = false
is_answer_to index place (Only name) = false

-- the core says that there may be one version of the package's name, and asks for this one
abbrev pub is_version_in : IndexView → ℕ → List Constraint → Bool
is_version_in index place core = list_any (is_version_of index place) core && list_any (is_answer_to index place) core

-- the places of such packages of the cores, rising
unfoldable pub versions_in : IndexView → List (List Constraint) → List ℕ
versions_in index cores = filter (λ place. list_any (is_version_in index place) cores) (below (length index.packages))

-- ---- causes with the packages that they break

-- the constraints of the cause, one of each that say the same; the places of the packages that have it among their causes; how many of these have no other;
-- the needs that say so in their cores; the versions that these cores ask for, of the names of which there may be one
pub record CauseView : Type 0 where
  pub constraints : List Constraint
  pub places : List ℕ
  pub frees : ℕ
  pub needs : List Constraint
  pub versions : List ℕ

abbrev pub cause_view : Cause → CauseView
cause_view cause = record {
  constraints = cause.constraints.items;
  places = cause.places.items;
  frees = cause.frees;
  needs = cause.needs.items;
  versions = cause.versions.items;
}

-- it speaks of constraints and places that the index has
pub record IsCauseOf (index : IndexView) (cause : CauseView) : Type 0 where
  pub constraints : All (IsOfIndex index) cause.constraints
  pub places : All (λ place. place < length index.packages) cause.places
  pub needs : All (IsOfIndex index) cause.needs
  pub versions : All (λ place. place < length index.packages) cause.versions

abbrev pub gathered : IndexView → List (ℕ × List (List Constraint)) → List Constraint → CauseView
gathered index broken cause = let cores = cores_with index broken cause in record {
  constraints = first_of_each (says_same index) cause;
  places = map (λ one. one.0) (filter (is_broken_by index cause) broken);
  frees = count_by (is_freed_by index cause) broken;
  needs = needs_in index cores;
  versions = versions_in index cores;
}

-- all causes of the packages, one after the other
abbrev pub found_causes : IndexView → List (ℕ × List (List Constraint)) → List (List Constraint)
found_causes index broken = flat_map (λ one. map (cause_in index) one.1) broken

-- each cause once, with all that is gathered of it, in the order of the first packages
unfoldable pub by_first : IndexView → List (ℕ × List (List Constraint)) → List CauseView
by_first index broken = map (gathered index broken) (first_of_each (same_cause index) (found_causes index broken))

-- the cause has so many packages
abbrev pub has_count : ℕ → CauseView → Bool
has_count count cause = length cause.places == count

-- those with so many packages, then those with fewer, by their counts; those of one count in the order of the list
unfoldable pub by_count : ℕ → List CauseView → List CauseView
by_count zero causes = filter (has_count 0) causes
by_count (suc n) causes = filter (has_count (suc n)) causes ++ by_count n causes

-- the causes of broken packages: those of more packages first, then by their first packages
unfoldable pub causes_list : IndexView → List (ℕ × ToldView) → List CauseView
causes_list index broken = by_count (length broken) (by_first index (map cores_of broken))

-- the positions of the constraints that say what one of the cause says
abbrev pub said_at : IndexView → List Constraint → NumberSet
said_at index cause k = option_map_or (is_said index cause) (slice_get (constraints_of index) k) false

-- with all that the cause says taken out of the list, some set with a package that it frees meets the rest
abbrev pub FreedAreAdmitted : Type 0
FreedAreAdmitted = (index : IndexView) (place : ℕ) (cores : List (List Constraint)) (cause : List Constraint) → AreCores index place cores
    → is_freed_by index cause (place, cores) ≡ true → Admits index place (without (said_at index cause) all_of)

-- the constraint is a need that is among these
abbrev pub is_need_among : List Constraint → Constraint → Bool
is_need_among constraints one = is_need one && list_any (same_constraint one) constraints

-- at the position stands such a need
abbrev pub is_need_at : IndexView → List Constraint → ℕ → Bool
is_need_at index constraints k = option_map_or (is_need_among constraints) (slice_get (constraints_of index) k) false

-- the constraint is that there may be one version of some name
abbrev pub is_only : Constraint → Bool
is_only (Essential name) = false
is_only (Need place number) = false
is_only (Apart place number) = false
is_only (Only name) = true
