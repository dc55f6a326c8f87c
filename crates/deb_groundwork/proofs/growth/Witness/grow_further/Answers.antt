use Rattle.std.proofs.Common.{◌≡◌, ℕ, Some, slice_get, ◌∙◌, ap}
use Rattle.deb_index.specs.declared.constraint.Constraint.TheVariants.{Need}
use Rattle.deb_index.specs.Packages.{IndexView}
use Rattle.deb_index.specs.Constraints.{IsOfIndex, constraints_of}
use Rattle.deb_index.proofs.ConstraintLemmas.{constraints-within}
use Rattle.deb_index.proofs.IndexFacts.{All-at}
use Rattle.deb_groundwork.proofs.growth.Witness.grow_further.Goals as goal

need_within : (index : IndexView) (at place number : ℕ) → slice_get (constraints_of index) at ≡ Some (Need place number) → IsOfIndex index (Need place number)
need_within index at place number there = All-at (IsOfIndex index) (constraints_of index) at (Need place number) (constraints-within index) there

pub take_answer-requires-clause-place : goal.take_answer-requires-clause-place
take_answer-requires-clause-place c =
    (need_within c.args.ground.now.part.index.now c.loop-position.position c.in-Need.place c.in-Need.number (c.constraint_at.ensures ∙ ap Some c.in-Need.is)).0

pub take_answer-requires-clause-number : goal.take_answer-requires-clause-number
take_answer-requires-clause-number c =
    (need_within c.args.ground.now.part.index.now c.loop-position.position c.in-Need.place c.in-Need.number (c.constraint_at.ensures ∙ ap Some c.in-Need.is)).1
