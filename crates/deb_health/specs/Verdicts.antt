-- What the verdict of a package is, and what is told of a package that was asked.
use Rattle.std.specs.Prelude.{◌≡◌, ℕ, ◌<◌, false, true, All, List, [], ◌∷◌, length, Some, map, slice_get}
use Rattle.std.specs.List.Sorted.{IsStrictlyIncreasing}
use Rattle.deb_index.specs.declared.constraint.Constraint.{Constraint}
use Rattle.deb_index.specs.Packages.{IndexView}
use Rattle.deb_index.specs.Constraints.{constraints_of, IsOfIndex}
use Rattle.number_sets.specs.Sets.{members_of, IsFirst}
use Rattle.deb_health.specs.declared.answer.Verdict.{Verdict}
use Rattle.deb_health.specs.declared.answer.Verdict.TheVariants as verdict_is
use Rattle.deb_health.specs.declared.told.Cores.{Cores}
use Rattle.deb_health.specs.declared.told.Cores.TheVariants as cores_are
use Rattle.deb_health.specs.declared.told.Told.{Told}
use Rattle.deb_health.specs.declared.told.Told.TheVariants as told_is
use Rattle.deb_health.specs.declared.told.Wanted.{Wanted}
use Rattle.deb_health.specs.Causes.{AreCores}
use Rattle.deb_health.specs.Health.{IsInstallable, IsInstallation, IsHopeless, AdmitsNone}
use Rattle.deb_health.specs.declared.shown.Shown.{Shown}

-- the places, rising, of the first healthy set that contains p
abbrev pub IsFirstInstallation : IndexView → ℕ → List ℕ → Type 0
IsFirstInstallation index p places = IsStrictlyIncreasing places × IsFirst (IsInstallation index p) (members_of places)

-- the constraints at the first set of positions that admits no set with p
pub record IsFirstCore (index : IndexView) (p : ℕ) (broken : List Constraint) : Type 0 where
  pub positions : List ℕ
  pub rising : IsStrictlyIncreasing positions
  pub first : IsFirst (AdmitsNone index p) (members_of positions)
  pub stand_there : map (slice_get (constraints_of index)) positions ≡ map Some broken

-- ---- what is told

-- what is told of a package without where it lies in memory: that some healthy set contains it, or the places of one, or cores where none does
pub data ToldView : Type 0 where
  Installable : ToldView
  Found : List ℕ → ToldView
  Blocked : List (List Constraint) → ToldView

abbrev pub told_view : Told → ToldView
told_view told_is.Installable = Installable
told_view (told_is.Set places) = Found places.items
told_view (told_is.Broken cores) = Blocked (map (λ core. core.items) cores.items)

-- the cores that are told
abbrev pub cores_in : ToldView → List (List Constraint)
cores_in Installable = []
cores_in (Found places) = []
cores_in (Blocked told) = told

-- as many cores of p as are wanted: none, the first, or those whose causes are all its causes
abbrev pub AreToldCores : Cores → IndexView → ℕ → List (List Constraint) → Type 0
AreToldCores cores_are.None index p told = told ≡ []
AreToldCores cores_are.First index p told = (core : List Constraint) × (told ≡ core ∷ []) × IsFirstCore index p core
AreToldCores cores_are.All index p told = AreCores index p told

-- as much of p as is wanted: its first healthy set where that is, else that there is one; where there is none, the cores that are wanted
abbrev pub IsTold : Wanted → IndexView → ℕ → ToldView → Type 0
IsTold wanted index p Installable = (wanted.sets ≡ false) × IsInstallable index p
IsTold wanted index p (Found places) = (wanted.sets ≡ true) × IsFirstInstallation index p places
IsTold wanted index p (Blocked told) = IsHopeless index p × AreToldCores wanted.cores index p told

-- it speaks of places and constraints that the index has
abbrev pub SpeaksOf : IndexView → ToldView → Type 0
SpeaksOf index Installable = Unit {0}
SpeaksOf index (Found places) = All (λ place. place < length index.packages) places
SpeaksOf index (Blocked told) = All (All (IsOfIndex index)) told

-- ---- the verdict

-- the first healthy set that contains a package; where there is none, the first core
abbrev pub whole_verdict : Wanted
whole_verdict = record { sets = true; cores = cores_are.First }

abbrev pub IsVerdict : IndexView → ℕ → ToldView → Type 0
IsVerdict index p told = IsTold whole_verdict index p told

abbrev pub verdict_view : Verdict → ToldView
verdict_view (verdict_is.Ok places) = Found places.items
verdict_view (verdict_is.Broken constraints) = Blocked (constraints.items ∷ [])

abbrev pub shown_view : Shown → ℕ × ToldView
shown_view shown = (shown.place, told_view shown.told.now)

-- both speak of what the index has
abbrev pub IsAskedOf : IndexView → ℕ × ToldView → Type 0
IsAskedOf index asked = (asked.0 < length index.packages) × SpeaksOf index asked.1
