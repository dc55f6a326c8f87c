use Rattle.std.proofs.Common.{◌≡◌, ◌++◌}
use Rattle.deb_report.specs.WalkLines.{blanks}
use Rattle.deb_report.proofs.walk_lines.push_lead.Given as goal

abbrev pub invariant-loop : goal.invariant-loop
invariant-loop l = l.out.items ≡ l.initial.out.items ++ blanks l.counter
