use Rattle.std.proofs.Common.{◌≡◌, ◌≤◌, ℕ, Some, length, slice_get, arith}
use Rattle.deb_index.specs.declared.constraint.Constraint.TheVariants.{Essential}
use Rattle.deb_index.specs.Packages.{essential_names}
use Rattle.deb_groundwork.specs.Parts.{MeetsAsked}
use Rattle.deb_groundwork.proofs.RowLemmas.{more_below}
use Rattle.deb_groundwork.proofs.WitnessLemmas.{essentials_held}
use Rattle.deb_groundwork.proofs.healthy_set.meets_essentials.Goals as goal

pub loop-position-preserved : goal.loop-position-preserved
loop-position-preserved g c =
    let Meets : ℕ → Type 0 = λ k.
    (number : ℕ) → slice_get (essential_names c.args.part.now.index.now) k ≡ Some number → MeetsAsked c.args.part.now (g.P.Places.members c.args.set.now) (Essential number) in
    more_below Meets Meets c.loop-position.position (λ k below meets. meets) c.loop-position.invariant (c.meets_essential.ensures c.if-not-meets_essential.false)

pub returns : goal.returns
returns g c = λ _.
    let past : length (essential_names c.args.part.now.index.now) ≤ c.loop-position.position = omega (arith, c.essential_count-position-end.ensures) in
    essentials_held c.args.part.now (g.P.Places.members c.args.set.now) c.loop-position.position past c.loop-position.invariant
