use Rattle.std.proofs.Common.{◌≡◌, ◌+◌, ◌<◌, ◌≤◌, ◌^◌, true}
use Rattle.core_extract.proofs.reduction.last_of_stride.Given as goal

abbrev pub invariant-loop : goal.invariant-loop
invariant-loop g l =
    (l.first ≤ l.last)
    × (l.last + 1 < 2 ^ 32)
    × (1 ≤ l.counter)
    × (l.run < 2 → l.end ≤ 1)
    × (l.run < 2 → l.last ≡ l.first)
    × (g.Q.Question.used l.question l.first ≡ true → g.Q.Question.used l.question l.last ≡ true)
