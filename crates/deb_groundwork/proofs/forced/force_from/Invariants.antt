use Rattle.std.proofs.Common.{◌-◌, length}
use Rattle.deb_groundwork.specs.Groundwork.{KeepsForced}
use Rattle.deb_groundwork.proofs.forced.force_from.Given as goal

abbrev pub invariant-loop-visited : goal.invariant-loop-visited
invariant-loop-visited l = KeepsForced l.index l.initial.forced l.forced

abbrev pub decreases-loop-visited : goal.decreases-loop-visited
decreases-loop-visited l = length l.index.packages - l.visited
