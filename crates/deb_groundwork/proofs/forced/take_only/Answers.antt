use Rattle.std.proofs.Common.{inr, arith}
use Rattle.number_sets.proofs.Placing.{single_row}
use Rattle.deb_groundwork.proofs.forced.take_only.Goals as goal

pub returns-in_ok-insert-in-len1 : goal.returns-in_ok-insert-in-len1
returns-in_ok-insert-in-len1 c = inr (_, single_row c.args.row.now (omega arith), c.in_ok-insert-in-len1.ensures)
