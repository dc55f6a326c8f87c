use Rattle.std.proofs.Common.{map, take}
use Rattle.deb_report.specs.Since.{AreMarks, broken_view, was_broken}
use Rattle.deb_report.proofs.marks.marks_of.Given as goal

abbrev pub invariant-loop-deb : goal.invariant-loop-deb
invariant-loop-deb l = AreMarks l.index (was_broken (map broken_view (take l.deb-index l.before))) l.marks.items
