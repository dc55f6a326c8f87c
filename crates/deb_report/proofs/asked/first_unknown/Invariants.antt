use Rattle.std.proofs.Common.{◌≡◌, None, find, map, take}
use Rattle.deb_report.specs.Outcome.{is_unknown}
use Rattle.deb_report.proofs.asked.first_unknown.Given as goal

abbrev pub invariant-loop-name : goal.invariant-loop-name
invariant-loop-name l = find (is_unknown l.index) (map (λ name. name.items) (take l.name-index l.names)) ≡ None
