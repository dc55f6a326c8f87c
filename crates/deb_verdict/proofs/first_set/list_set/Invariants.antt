use Rattle.deb_verdict.proofs.Inserted.{Inserted}
use Rattle.deb_verdict.proofs.first_set.list_set.Given as goal

abbrev pub invariant-loop-var : goal.invariant-loop-var
invariant-loop-var l = Inserted l.forced l.candidates l.vars l.var-index l.places.items
