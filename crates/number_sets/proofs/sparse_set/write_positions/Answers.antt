use Rattle.std.proofs.Common.{arith}
use Rattle.number_sets.proofs.SparseSetLemmas.{position_at_most, numbered_more}
use Rattle.number_sets.proofs.sparse_set.write_positions.Goals as goal

pub overflow_cast-positions : goal.overflow_cast-positions
overflow_cast-positions c =
    let at_most = position_at_most c.args.numbers.now c.loop-position.position c.requires.rising c.loop-position-test.true in
    let within = c.requires.within c.loop-position.position 0 c.loop-position-test.true in
    omega (arith, at_most, within, c.requires.few)

pub loop-position-preserved : goal.loop-position-preserved
loop-position-preserved c =
    numbered_more c.args.numbers.now c.args.positions.now c.loop-position.positions c.loop-position.position c.requires.rising c.requires.within c.loop-position-test.true c.loop-position.invariant
