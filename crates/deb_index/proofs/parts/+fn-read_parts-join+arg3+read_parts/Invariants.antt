use Rattle.std.proofs.Common.{◌+◌, ◌*◌}
use Rattle.deb_index.proofs.parts.+fn-read_parts-join+arg3+read_parts.Given as goal

abbrev pub decreases-join+arg3 : goal.decreases-join+arg3
decreases-join+arg3 g l = 2 * l.others + 1

abbrev pub decreases-read_parts : goal.decreases-read_parts
decreases-read_parts g l = 2 * l.workers
