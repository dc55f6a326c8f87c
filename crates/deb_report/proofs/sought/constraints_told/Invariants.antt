use Rattle.std.proofs.Common.{◌≡◌, take}
use Rattle.std.specs.List.{flat_map}
use Rattle.deb_report.proofs.SoughtLemmas.{told}
use Rattle.deb_report.proofs.sought.constraints_told.Given as goal

abbrev pub invariant-loop-one : goal.invariant-loop-one
invariant-loop-one l = l.constraints.items ≡ flat_map told (take l.one-index l.blocks)
