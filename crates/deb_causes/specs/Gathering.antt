-- What has the number of a cause.
use Rattle.std.specs.Prelude.{ℕ, ◌==◌, Bool, true, List, [], ◌∷◌, ◌++◌, filter, map, if◌then◌else◌, count_by, slice_index_or}
use Rattle.std.specs.List.{flat_map, list_all, list_any}
use Rattle.deb_index.specs.declared.constraint.Constraint.{Constraint}
use Rattle.deb_causes.specs.declared.gathered.Part.{Part}
use Rattle.deb_index.specs.Packages.{IndexView, first_of_each}
use Rattle.deb_health.specs.Causes.{cause_in}
use Rattle.deb_causes.specs.Causes.{CauseView, needs_in, says_same, versions_in}

abbrev pub has_number : ℕ → ℕ × List Constraint → Bool
has_number number core = core.0 == number

-- the cores with the number
abbrev pub cores_with_number : ℕ → List (ℕ × List Constraint) → List (List Constraint)
cores_with_number number cores = map (λ core. core.1) (filter (has_number number) cores)

-- all cores have the number of the first
abbrev pub is_alone : List (ℕ × List Constraint) → Bool
is_alone [] = true
is_alone (core ∷ cores) = list_all (has_number core.0) cores

-- the place of a package, and whether all its cores have one number
abbrev pub share_of : ℕ × List (ℕ × List Constraint) → ℕ × Bool
share_of one = (one.0, is_alone one.1)

pub record PartView : Type 0 where
  pub cores : List (List Constraint)
  pub shares : List (ℕ × Bool)

abbrev pub part_view : Part → PartView
part_view part = record { cores = map (λ core. core.now) part.cores.items; shares = part.shares.items }

-- what has the number of the packages and their cores
abbrev pub part_of : List (ℕ × List (ℕ × List Constraint)) → ℕ → PartView
part_of packages number = record {
  cores = cores_with_number number (flat_map (λ one. one.1) packages);
  shares = map share_of (filter (λ one. list_any (has_number number) one.1) packages);
}

-- a part with those of more cores that have its number
abbrev pub with_cores : List (ℕ × List Constraint) → ℕ → PartView → PartView
with_cores cores number part = record { cores = part.cores ++ cores_with_number number cores; shares = part.shares }

-- a part with one more package, where it has its number
abbrev pub with_share : ℕ × Bool → Bool → PartView → PartView
with_share share has part = record { cores = part.cores; shares = part.shares ++ (if has then share ∷ [] else []) }

abbrev pub cause_from : IndexView → PartView → CauseView
cause_from index part = record {
  constraints = first_of_each (says_same index) (cause_in index (slice_index_or part.cores 0 []));
  places = map (λ share. share.0) part.shares;
  frees = count_by (λ share. share.1) part.shares;
  needs = needs_in index part.cores;
  versions = versions_in index part.cores;
}
