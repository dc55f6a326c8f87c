use Rattle.std.proofs.Common.{◌≡◌, ◌-◌}
use Rattle.work_draw.specs.Checks.{Find, Gains}
use Rattle.work_draw.proofs.Bounds.{bound_of}
use Rattle.work_draw.proofs.workers.draw_each.Given as goal

abbrev pub invariant-loop-number : goal.invariant-loop-number
invariant-loop-number g l = record {
  same : l.drawer ≡ record l.fn.drawer { numbers = l.drawer.numbers };
  gained : Gains l.fn.drawer.numbers l.pieces.items l.drawer.numbers;
  found : Find (g.F.Finder.finds l.finder) l.pieces.items;
}

abbrev pub decreases-loop-number : goal.decreases-loop-number
decreases-loop-number g l = l.board.total - bound_of l.drawer.numbers
