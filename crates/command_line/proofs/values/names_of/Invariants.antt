use Rattle.std.proofs.Common.{◌≡◌, map}
use Rattle.command_line.proofs.values.names_of.Given as goal

abbrev pub invariant-loop-part : goal.invariant-loop-part
invariant-loop-part l = map (λ name. name.items) l.names.items ≡ map (λ part. part.now) l.yielded
