-- A core as it is walked from the package: depth first, what each package of it asks for, and under a need the packages that answer it; and what it
-- says of each of its packages, in a table.
use Rattle.std.specs.Prelude.{ℕ, ◌==◌, ◌+◌, ◌<◌, nat_eq, nat_lt, Bool, true, false, not, ◌&&◌, List, [], ◌∷◌, ◌++◌, filter, if◌then◌else◌, length, map, ◌≡◌}
use Prim.Native.Nat.{zero, suc}
use Rattle.std.specs.HashSet.{HashSet, contains}
use Rattle.std.specs.List.{flat_map, list_all}
use Rattle.number_sets.specs.Sets.{NumberSet}
use Rattle.deb_relation.specs.Relationship.{AtomText}
use Rattle.deb_index.specs.declared.constraint.Constraint.{Constraint}
use Rattle.deb_index.specs.declared.constraint.Constraint.TheVariants.{Essential, Need, Apart, Only}
use Rattle.deb_index.specs.Meets.{group_satisfiers, satisfiers}
use Rattle.deb_index.specs.Packages.{IndexView, name_at, need_at, places_of}
use Rattle.deb_report.specs.declared.walk.Step.{Step}
use Rattle.deb_report.specs.declared.walk.Step.TheVariants.{Begin, Meet, Tell}
use Rattle.std.specs.HashMap.{HashMap, get}
use Rattle.std.specs.Option.{option_map, unwrap_or}
use Rattle.std.specs.Global.{Vec}

-- ---- packages of a walk

-- the places that a set has
abbrev pub places_in : {S : Type 0} → HashSet ℕ S → NumberSet
places_in set = contains nat_eq set

-- the set with one place more
abbrev pub with_place : NumberSet → ℕ → NumberSet
with_place set place number = if place == number then true else set number

-- the packages that a constraint brings: those that answer a need, or have an essential name
unfoldable pub brought : IndexView → Constraint → List ℕ
brought index (Essential name) = places_of index (name_at index name)
brought index (Need place number) = group_satisfiers index (need_at index place number)
brought index (Apart place number) = []
brought index (Only name) = []

-- those that come in the walk of a core
abbrev pub comers : IndexView → List Constraint → ℕ → List ℕ
comers index core place = place ∷ flat_map (brought index) core

-- the packages are told already
abbrev pub are_told : NumberSet → List ℕ → Bool
are_told told places = list_all told places

-- the package comes, and is not the one at the place, which asks for an entry
abbrev pub is_hit : NumberSet → ℕ → ℕ → Bool
is_hit coming place hit = coming hit && not (hit == place)

-- those that an entry of the package at a place hits in the walk
abbrev pub hits_in : IndexView → NumberSet → ℕ → AtomText → List ℕ
hits_in index coming place atom = filter (is_hit coming place) (satisfiers index atom)

-- those that come and have a name
abbrev pub versions_coming : IndexView → NumberSet → ℕ → List ℕ
versions_coming index coming name = filter coming (places_of index (name_at index name))

-- ---- steps

-- a step of a walk that is still to go: `Begin place`, the package is told where it wasn't yet; `Meet depth place constraint`, it answers the constraint;
-- `Tell depth constraint`, what the core says

-- the depth of the packages that are met by one constraint: where there are several they stand further in, 20 times at most
abbrev pub depth_of : ℕ → List ℕ → ℕ
depth_of depth places = if nat_lt 1 (length places) && nat_lt depth 20 then depth + 1 else depth

-- the constraint is one that the package at a place asks for
abbrev pub is_own : ℕ → Constraint → Bool
is_own place (Essential name) = false
is_own place (Need asking number) = asking == place
is_own place (Apart asking number) = asking == place
is_own place (Only name) = false

-- what the core says of the package at a place
unfoldable pub own_steps : List Constraint → ℕ → ℕ → List Step
own_steps core depth place = map (λ constraint. Tell depth constraint) (filter (is_own place) core)

-- the packages that a constraint brings, where one of them isn't told yet
unfoldable pub met_steps : IndexView → NumberSet → ℕ → Constraint → List Step
met_steps index told depth constraint = let places = brought index constraint in
    if are_told told places then [] else map (λ place. Meet (depth_of depth places) place constraint) places

-- what follows from a step
unfoldable pub steps_behind : IndexView → List Constraint → NumberSet → Step → List Step
steps_behind index core told (Begin place) = if told place then [] else own_steps core 0 place
steps_behind index core told (Meet depth place constraint) = if told place then [] else own_steps core depth place
steps_behind index core told (Tell depth constraint) = met_steps index told depth constraint

-- the packages that are told behind it
abbrev pub told_behind : NumberSet → Step → NumberSet
told_behind told (Begin place) = with_place told place
told_behind told (Meet depth place constraint) = with_place told place
told_behind told (Tell depth constraint) = told

-- what a constraint begins a walk with: a name, which is essential or may stand once; a package that asks for something
abbrev pub named_step : Constraint → List Step
named_step (Essential name) = Tell 0 (Essential name) ∷ []
named_step (Need place number) = []
named_step (Apart place number) = []
named_step (Only name) = Tell 0 (Only name) ∷ []

abbrev pub begin_step : Constraint → List Step
begin_step (Essential name) = []
begin_step (Need place number) = Begin place ∷ []
begin_step (Apart place number) = Begin place ∷ []
begin_step (Only name) = []

-- the steps of a walk: the package; the names of the core, of which the essential ones stand first; the packages of the core that it didn't come by, of which a first core has none
unfoldable pub first_steps : List Constraint → ℕ → List Step
first_steps core place = Begin place ∷ flat_map named_step core ++ flat_map begin_step core

-- ---- the walk

-- the steps as they are gone, each behind what is told before it: on with the first; what follows from that comes before the others
unfoldable pub walk : ℕ → IndexView → List Constraint → NumberSet → List Step → List (NumberSet × Step)
walk zero index core told steps = []
walk (suc count) index core told [] = []
walk (suc count) index core told (step ∷ steps) = (told, step) ∷ walk count index core (told_behind told step) (steps_behind index core told step ++ steps)

-- more steps than a walk has: each constraint of the core is told once and brings each package once at most, and each package of the core is begun once
abbrev pub step_limit : ℕ
step_limit = 18446744073709551615

-- ---- what is of the index

-- a step speaks of packages of the index, and of constraints of some kind
abbrev pub IsStepOf : IndexView → (Constraint → Type 0) → Step → Type 0
IsStepOf index P (Begin place) = place < length index.packages
IsStepOf index P (Meet depth place constraint) = (place < length index.packages) × P constraint
IsStepOf index P (Tell depth constraint) = P constraint

module _ {S : Type 0} where
  -- the list that a table has at a place
  abbrev pub said_at : HashMap ℕ (Vec Constraint) S → ℕ → List Constraint
  said_at table place = unwrap_or (option_map (λ list. list.items) (get nat_eq table place)) []

  -- a table has at each place what the core says of the package there
  abbrev pub IsTableOf : List Constraint → HashMap ℕ (Vec Constraint) S → Type 0
  IsTableOf core table = (place : ℕ) → said_at table place ≡ filter (is_own place) core
