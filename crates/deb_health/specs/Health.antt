-- Healthy sets of places, and what sets of constraints admit.
use Rattle.std.specs.Prelude.{◌≡◌, ℕ, true, All, Some, slice_get}
use Rattle.deb_index.specs.declared.constraint.Constraint.{Constraint}
use Rattle.deb_index.specs.Packages.{IndexView}
use Rattle.deb_index.specs.Constraints.{Holds, constraints_of}
use Rattle.number_sets.specs.Sets.{NumberSet, IsWithin, IsUpward}

-- the set meets all constraints of the index
abbrev pub IsHealthy : IndexView → NumberSet → Type 0
IsHealthy index set = All (Holds index set) (constraints_of index)

-- a healthy set that contains p
abbrev pub IsInstallation : IndexView → ℕ → NumberSet → Type 0
IsInstallation index p set = IsHealthy index set × (set p ≡ true)

-- no healthy set contains p
abbrev pub IsHopeless : IndexView → ℕ → Type 0
IsHopeless index p = (set : NumberSet) → IsInstallation index p set → ⊥

-- some healthy set contains p
abbrev pub IsInstallable : IndexView → ℕ → Type 0
IsInstallable index p = (set : NumberSet) × IsInstallation index p set

-- the set meets the constraints at these positions of the list
abbrev pub MeetsAt : IndexView → NumberSet → NumberSet → Type 0
MeetsAt index set positions =
    (k : ℕ) (constraint : Constraint) → positions k ≡ true → slice_get (constraints_of index) k ≡ Some constraint → Holds index set constraint

-- some set that contains p meets the constraints at these positions
abbrev pub Admits : IndexView → ℕ → NumberSet → Type 0
Admits index p positions = (set : NumberSet) × (set p ≡ true) × MeetsAt index set positions

-- no set that contains p meets them
abbrev pub AdmitsNone : IndexView → ℕ → NumberSet → Type 0
AdmitsNone index p positions = Admits index p positions → ⊥

-- more constraints admit none either
admits_fewer : (index : IndexView) (p : ℕ) (fewer more : NumberSet) → IsWithin fewer more → Admits index p more → Admits index p fewer
admits_fewer index p fewer more within admits = (admits.0, admits.1, λ k constraint asked there. admits.2 k constraint (within k asked) there)

pub admits_none_upward : (index : IndexView) (p : ℕ) → IsUpward (AdmitsNone index p)
admits_none_upward index p a b within none admits = none (admits_fewer index p a b within admits)
