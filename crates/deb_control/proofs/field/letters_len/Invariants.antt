use Rattle.std.proofs.Common.{length, ◌-◌, ◌≤◌}
use Rattle.deb_control.specs.Fields.{IsInName}
use Rattle.deb_control.proofs.field.letters_len.Given as goal

abbrev pub invariant-loop-len : goal.invariant-loop-len
invariant-loop-len l = record { within : l.len ≤ length l.line; name : IsInName l.line l.len }

abbrev pub decreases-loop-len : goal.decreases-loop-len
decreases-loop-len l = length l.line - l.len
