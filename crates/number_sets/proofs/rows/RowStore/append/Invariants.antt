use Rattle.std.proofs.Common.{◌≡◌, ◌++◌, take}
use Rattle.number_sets.proofs.rows.RowStore.append.Given as goal

abbrev pub invariant-loop-number : goal.invariant-loop-number
invariant-loop-number l = l.self ≡ l.initial.self ++ take l.number l.more
