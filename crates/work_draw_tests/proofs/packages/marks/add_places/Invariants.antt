use Rattle.std.proofs.Common.{◌<◌, All, length}
use Rattle.work_draw_tests.proofs.packages.marks.add_places.Given as goal

abbrev pub invariant-words : goal.invariant-words
invariant-words g l = All (λ place. place < length l.index.packages) l.places.items
