use Rattle.std.proofs.Common.{◌≡◌, ℕ, ◌<◌, length}
use Rattle.sat_solve.specs.Rotation.{BreaksAlone, IsListed, MarksNeeded}
use Rattle.sat_solve.proofs.rotation.Rotation.walk.Given as goal

abbrev pub invariant-loop : goal.invariant-loop
invariant-loop l = record {
  listed : (k : ℕ) → k < length l.problem.spans.now → IsListed l.problem l.self.lists.items k;
  alone : BreaksAlone l.problem l.self.inside.items l.self.group;
  needed : MarksNeeded l.problem l.self.marks.items;
  sized : length l.self.marks.items ≡ length l.problem.keep.now;
}
