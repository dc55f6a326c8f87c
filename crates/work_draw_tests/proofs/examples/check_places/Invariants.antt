use Rattle.std.proofs.Common.{◌<◌, All, take, length}
use Rattle.work_draw_tests.proofs.examples.check_places.Given as goal

abbrev pub invariant-loop-place : goal.invariant-loop-place
invariant-loop-place g l = All (λ place. place < length l.index.packages) (take l.place-index l.places)
