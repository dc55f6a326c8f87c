use Rattle.std.proofs.Common.{◌≡◌}
use Rattle.work_draw_tests.proofs.boards.draws.Given as goal

abbrev pub invariant-loop-number : goal.invariant-loop-number
invariant-loop-number l = l.drawer.board ≡ l.fn.board
