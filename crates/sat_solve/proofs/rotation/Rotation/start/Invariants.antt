use Rattle.std.proofs.Common.{◌≡◌, length}
use Rattle.sat_solve.proofs.rotation.Rotation.start.Given as goal

abbrev pub invariant-loop-var : goal.invariant-loop-var
invariant-loop-var l = record {
  sized : length l.self.inside.items ≡ l.problem.vars;
  group : l.self.group ≡ l.group;
  lists : l.self.lists ≡ l.initial.self.lists;
  marks : l.self.marks ≡ l.initial.self.marks;
}
