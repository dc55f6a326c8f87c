use Rattle.number_sets.specs.Sets.{members_of}
use Rattle.deb_groundwork.specs.Groundwork.{AreHopeless}
use Rattle.deb_groundwork.proofs.hopeless.find_lacking.Given as goal

abbrev pub invariant-loop-pass : goal.invariant-loop-pass
invariant-loop-pass l = AreHopeless l.index (members_of l.hopeless)
