use Rattle.std.proofs.Common.{ℕ}
use Rattle.deb_index.specs.declared.constraint.Constraint.TheVariants.{Apart}
use Rattle.deb_index.specs.Constraints.{Holds}
use Rattle.deb_groundwork.proofs.RowLemmas.{more_below}
use Rattle.deb_groundwork.proofs.rows.stands_apart.Goals as goal

pub loop-number-preserved : goal.loop-number-preserved
loop-number-preserved g c =
    let Apart_from : ℕ → Type 0 = λ j. Holds c.args.index.now (g.P.Places.members c.args.set.now) (Apart c.args.place j) in
    more_below Apart_from Apart_from c.loop-number.number (λ j below holds. holds) c.loop-number.invariant (c.hits_no_other.ensures c.if-not-hits_no_other.false)
