use Rattle.std.proofs.Common.{◌≡◌, map, take, true}
use Rattle.std.specs.List.{list_all}
use Rattle.deb_causes.specs.Gathering.{has_number}
use Rattle.deb_causes.specs.Numbering.{core_view}
use Rattle.deb_causes.proofs.gathered.have_number.Given as goal

abbrev pub invariant-loop-one : goal.invariant-loop-one
invariant-loop-one l = list_all (has_number l.number) (map core_view (take l.one-index l.cores)) ≡ true
