use Rattle.number_sets.specs.Sets.{members_of}
use Rattle.deb_groundwork.specs.Groundwork.{AreHopeless}
use Rattle.deb_groundwork.proofs.hopeless.visit_all.Given as goal

abbrev pub invariant-loop-step : goal.invariant-loop-step
invariant-loop-step l = AreHopeless l.index (members_of l.hopeless)
