use Rattle.std.proofs.Common.{◌+◌, ◌*◌}
use Rattle.deb_index.proofs.unlinked.+fn-links_on-join+arg3+links_on.Given as goal

abbrev pub decreases-join+arg3 : goal.decreases-join+arg3
decreases-join+arg3 g l = 2 * l.others + 1

abbrev pub decreases-links_on : goal.decreases-links_on
decreases-links_on g l = 2 * l.workers
