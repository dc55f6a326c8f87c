use Rattle.deb_control.specs.Fields.{IsInName}
use Rattle.deb_control.proofs.field.find_name_end.Given as goal

abbrev pub invariant-bytes : goal.invariant-bytes
invariant-bytes l = IsInName l.line l.i
