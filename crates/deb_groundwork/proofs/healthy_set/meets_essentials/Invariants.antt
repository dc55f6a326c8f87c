use Rattle.std.proofs.Common.{◌≡◌, ℕ, ◌<◌, Some, slice_get}
use Rattle.deb_index.specs.declared.constraint.Constraint.TheVariants.{Essential}
use Rattle.deb_index.specs.Packages.{essential_names}
use Rattle.deb_groundwork.specs.Parts.{MeetsAsked}
use Rattle.deb_groundwork.proofs.healthy_set.meets_essentials.Given as goal

abbrev pub invariant-loop-position : goal.invariant-loop-position
invariant-loop-position g l =
    (k : ℕ) → k < l.position → (number : ℕ) → slice_get (essential_names l.part.index.now) k ≡ Some number → MeetsAsked l.part (g.P.Places.members l.set) (Essential number)
