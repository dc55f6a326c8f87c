-- A set of packages, each with what it asks for, which others grow on.
use Rattle.std.specs.Prelude.{◌≡◌, ℕ, ◌<◌, true, false, All, length}
use Rattle.deb_index.specs.declared.constraint.Constraint.TheVariants.{Apart}
use Rattle.deb_index.specs.Packages.{IndexView, package_at, places_of, aparts_at}
use Rattle.deb_index.specs.Constraints.{Holds, hits}
use Rattle.number_sets.specs.Sets.{NumberSet, members_of}
use Rattle.deb_groundwork.specs.Groundwork.{HasAnswers}
use Rattle.deb_groundwork.specs.Parts.{HasNoEarlier}
use Rattle.deb_groundwork.specs.declared.base_set.BaseSet.{BaseSet}

-- the set has all places that an entry of the package at a place hits
abbrev pub HasHits : IndexView → NumberSet → ℕ → Type 0
HasHits index set place = (j q : ℕ) → j < length (aparts_at index place) → hits index place j q ≡ true → set q ≡ true

-- the set has what each member asks for, and no earlier package of its name, and what an entry of one hits is told
pub record IsBase (index : IndexView) (base : BaseSet) : Type 0 where
  pub within : All (λ place. place < length index.packages) base.members
  pub needs : (place : ℕ) → members_of base.members place ≡ true → HasAnswers index (members_of base.members) place
  pub aparts : (place j : ℕ) → members_of base.members place ≡ true → j < length (aparts_at index place) → Holds index (members_of base.members) (Apart place j)
  pub once : (place : ℕ) → members_of base.members place ≡ true → HasNoEarlier index (members_of base.members) place
  pub hit : (place : ℕ) → members_of base.members place ≡ true → HasHits index (members_of base.hit) place

-- no entry of a member hits the place, and no member has its name
pub record HasRoom (index : IndexView) (base : BaseSet) (place : ℕ) : Type 0 where
  pub unhit : members_of base.hit place ≡ false
  pub unnamed : (q : ℕ) → members_of (places_of index (package_at index place).name) q ≡ true → members_of base.members q ≡ false
