use Rattle.std.proofs.Common.{◌≡◌, ◌+◌, ◌++◌, map, take}
use Rattle.number_sets.proofs.rows.push_behind.Given as goal

abbrev pub invariant-loop-number : goal.invariant-loop-number
invariant-loop-number l = l.numbers.items ≡ l.initial.numbers.items ++ map (λ n. l.before + n) (take l.number-index l.more)
