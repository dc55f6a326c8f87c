use Rattle.deb_encode.proofs.Grouped.{EncodedTo}
use Rattle.deb_encode.proofs.groups.encode_each.Given as goal

abbrev pub invariant-loop-group : goal.invariant-loop-group
invariant-loop-group l = EncodedTo l.play l.constraints l.group l.formula
