use Rattle.number_sets.proofs.SparseSetLemmas.{NumberedBelow}
use Rattle.number_sets.proofs.sparse_set.write_positions.Given as goal

abbrev pub invariant-loop-position : goal.invariant-loop-position
invariant-loop-position l = NumberedBelow l.numbers l.initial.positions l.positions l.position
