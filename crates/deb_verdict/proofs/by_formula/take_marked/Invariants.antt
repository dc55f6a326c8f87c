use Rattle.deb_verdict.proofs.Answered.{TakenTo}
use Rattle.deb_verdict.proofs.by_formula.take_marked.Given as goal

abbrev pub invariant-loop-group : goal.invariant-loop-group
invariant-loop-group l = TakenTo l.positions l.marks l.group l.used.items
