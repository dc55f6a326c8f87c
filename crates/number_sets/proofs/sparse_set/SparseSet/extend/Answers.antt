use Rattle.std.proofs.Common.{refl}
use Rattle.number_sets.proofs.Extending.{grows_row, all_of_row, only_row, whole_row}
use Rattle.number_sets.proofs.sparse_set.SparseSet.extend.Goals as goal

pub loop-number-preserved : goal.loop-number-preserved
loop-number-preserved c = record {
  grows = grows_row c.args.numbers.now c.args.self.now c.loop-number.self c.insert.new.self c.loop-number.number-index _ c.loop-number-test.true refl c.in_ok-insert.ensures c.loop-number.invariant.grows;
  has = all_of_row c.args.numbers.now c.loop-number.self c.insert.new.self c.loop-number.number-index _ c.loop-number-test.true refl c.in_ok-insert.ensures c.loop-number.invariant.has;
  only = only_row c.args.numbers.now c.args.self.now c.loop-number.self c.insert.new.self c.loop-number.number-index _ c.loop-number-test.true refl c.in_ok-insert.ensures c.loop-number.invariant.only;
}

pub returns-clause-has : goal.returns-clause-has
returns-clause-has c = whole_row c.args.numbers.now c.loop-number.self c.loop-number.number-index c.loop-number-test.false c.loop-number.invariant.has
