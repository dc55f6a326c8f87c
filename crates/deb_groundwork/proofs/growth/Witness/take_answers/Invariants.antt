use Rattle.std.proofs.Common.{◌-◌}
use Rattle.deb_groundwork.proofs.growth.Witness.take_answers.Given as goal

abbrev pub decreases-loop-number : goal.decreases-loop-number
decreases-loop-number l = l.count - l.number
