use Rattle.std.proofs.Common.{◌≡◌}
use Rattle.work_draw_tests.proofs.boards.draw_all.Given as goal

abbrev pub invariant-loop : goal.invariant-loop
invariant-loop l = (l.drawer.board ≡ l.fn.drawer.board) × (l.drawer.held ≡ l.fn.drawer.held)
