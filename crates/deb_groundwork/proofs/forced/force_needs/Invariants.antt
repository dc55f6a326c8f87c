use Rattle.deb_groundwork.specs.Groundwork.{KeepsForced}
use Rattle.deb_groundwork.proofs.forced.force_needs.Given as goal

abbrev pub invariant-loop-number : goal.invariant-loop-number
invariant-loop-number l = KeepsForced l.index l.initial.forced l.forced
