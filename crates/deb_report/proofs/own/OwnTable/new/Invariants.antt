use Rattle.std.proofs.Common.{take}
use Rattle.deb_report.specs.Walk.{IsTableOf}
use Rattle.deb_report.proofs.own.OwnTable.new.Given as goal

abbrev pub invariant-loop-constraint : goal.invariant-loop-constraint
invariant-loop-constraint l = IsTableOf (take l.constraint-index l.core) l.lists
