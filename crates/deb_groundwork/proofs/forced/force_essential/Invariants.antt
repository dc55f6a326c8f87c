use Rattle.deb_groundwork.specs.Groundwork.{KeepsForced}
use Rattle.deb_groundwork.proofs.forced.force_essential.Given as goal

abbrev pub invariant-loop-position : goal.invariant-loop-position
invariant-loop-position l = KeepsForced l.index l.initial.forced l.forced
