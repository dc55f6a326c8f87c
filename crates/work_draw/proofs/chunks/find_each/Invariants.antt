use Rattle.std.proofs.Common.{take}
use Rattle.work_draw.specs.Checks.{AnswersEach}
use Rattle.work_draw.proofs.chunks.find_each.Given as goal

abbrev pub invariant-loop-place : goal.invariant-loop-place
invariant-loop-place g l = AnswersEach (g.F.Finder.finds l.finder) (take l.place-index l.places) l.found.items
