use Rattle.std.proofs.Common.{take}
use Rattle.deb_report.specs.Since.{AreMarks, has_named}
use Rattle.deb_report.proofs.marks.marks_at.Given as goal

abbrev pub invariant-loop-place : goal.invariant-loop-place
invariant-loop-place l = AreMarks l.index (has_named l.index (take l.place-index l.places)) l.marks.items
