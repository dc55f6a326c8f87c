use Rattle.std.proofs.Common.{◌≡◌, flat_map}
use Rattle.work_draw.proofs.pieces.gather.Given as goal

abbrev pub invariant-loop-piece : goal.invariant-loop-piece
invariant-loop-piece g l = l.all.items ≡ flat_map (λ p. p.verdicts.items) l.yielded
