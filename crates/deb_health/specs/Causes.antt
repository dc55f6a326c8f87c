-- All causes of a package that no healthy set has: that of the first core of all constraints, then that of the first core of the constraints without
-- the causes so far, as long as no set with the package meets what is left.
use Rattle.std.specs.Prelude.{◌≡◌, ℕ, ◌==◌, Bool, true, false, not, ◌&&◌, ◌||◌, List, [], ◌∷◌, Some, filter, length, map, slice_get}
use Rattle.std.specs.List.Sorted.{IsStrictlyIncreasing}
use Rattle.std.specs.Option.{option_map_or}
use Rattle.deb_index.specs.declared.constraint.Constraint.{Constraint}
use Rattle.deb_index.specs.declared.constraint.Constraint.TheVariants.{Essential, Need, Apart, Only}
use Rattle.deb_index.specs.Packages.{IndexView, need_at}
use Rattle.deb_index.specs.Meets.{group_satisfiers}
use Rattle.deb_index.specs.Constraints.{constraints_of}
use Rattle.number_sets.specs.Sets.{NumberSet, all_of, IsFirst, members_of}
use Rattle.deb_health.specs.Health.{Admits, AdmitsNone}

-- ---- the cause that a core has

-- no package of the index meets the need
abbrev pub is_unanswered : IndexView → ℕ → ℕ → Bool
is_unanswered index place number = length (group_satisfiers index (need_at index place number)) == 0

-- the constraint is no need that some package of the index meets
abbrev pub is_final : IndexView → Constraint → Bool
is_final index (Essential name) = true
is_final index (Need place number) = is_unanswered index place number
is_final index (Apart place number) = true
is_final index (Only name) = true

-- the cause of a core: its constraints, in their order, without the needs that some package of the index meets
abbrev pub cause_in : IndexView → List Constraint → List Constraint
cause_in index core = filter (is_final index) core

-- ---- cores of what is left

-- the numbers of the one that the other hasn't
abbrev pub without : NumberSet → NumberSet → NumberSet
without out set number = set number && not (out number)

-- the numbers that one of the two has
abbrev pub either : NumberSet → NumberSet → NumberSet
either a b number = a number || b number

-- no number
abbrev pub nothing : NumberSet
nothing number = false

-- the positions, rising, of the first core of the constraints that are not taken out
pub record IsFirstWithout (index : IndexView) (p : ℕ) (out : NumberSet) (core : List ℕ) : Type 0 where
  pub rising : IsStrictlyIncreasing core
  pub first : IsFirst (λ set. AdmitsNone index p (without out set)) (members_of core)

-- at the position stands a constraint that is no need that some package of the index meets
abbrev pub is_final_at : IndexView → NumberSet
is_final_at index k = option_map_or (is_final index) (slice_get (constraints_of index) k) false

-- the positions of the cause that the core at these positions has
abbrev pub cause_at : IndexView → List ℕ → NumberSet
cause_at index core k = members_of core k && is_final_at index k

-- ---- all causes

-- the cores, each by its positions, of what is left without some positions and the causes of the cores before it; some set with p meets what is left
-- without all causes
abbrev pub AreCoresWithout : IndexView → ℕ → NumberSet → List (List ℕ) → Type 0
AreCoresWithout index p out [] = Admits index p (without out all_of)
AreCoresWithout index p out (core ∷ later) = IsFirstWithout index p out core × AreCoresWithout index p (either out (cause_at index core)) later

-- the positions of the causes of these cores
abbrev pub causes_at : IndexView → List (List ℕ) → NumberSet
causes_at index [] = nothing
causes_at index (core ∷ later) = either (cause_at index core) (causes_at index later)

-- the cores of p, one after the other, whose causes are all causes: none, where some healthy set has p
pub record AreCores (index : IndexView) (p : ℕ) (cores : List (List Constraint)) : Type 0 where
  pub positions : List (List ℕ)
  pub each_first : AreCoresWithout index p nothing positions
  pub stand_there : map (map (slice_get (constraints_of index))) positions ≡ map (map Some) cores
