use Rattle.std.proofs.Common.{◌+◌, ◌*◌}
use Rattle.work_draw.proofs.workers.+crew_found+fn-crew_found-join+arg2+fn-crew_found-join+arg3.Given as goal

abbrev pub decreases-crew_found : goal.decreases-crew_found
decreases-crew_found g l = 2 * l.workers

abbrev pub decreases-join+arg2 : goal.decreases-join+arg2
decreases-join+arg2 g l = 2 * l.half + 1

abbrev pub decreases-join+arg3 : goal.decreases-join+arg3
decreases-join+arg3 g l = 2 * l.rest + 1
