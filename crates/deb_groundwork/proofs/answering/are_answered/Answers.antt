use Rattle.std.proofs.Common.{◌≡◌, ℕ, true}
use Rattle.std.specs.List.{list_any}
use Rattle.deb_index.specs.Packages.{need_at}
use Rattle.deb_index.specs.Meets.{group_satisfiers}
use Rattle.number_sets.specs.Sets.{members_of}
use Rattle.deb_groundwork.proofs.RowLemmas.{more_below}
use Rattle.deb_groundwork.proofs.answering.are_answered.Goals as goal

pub loop-number-preserved : goal.loop-number-preserved
loop-number-preserved c =
    let Has : ℕ → Type 0 = λ j. list_any (members_of c.args.set.now) (group_satisfiers c.args.index.now (need_at c.args.index.now c.args.place j)) ≡ true in
    more_below Has Has c.loop-number.number (λ j below has. has) c.loop-number.invariant (c.is_answered.ensures c.if-not-is_answered.false)
