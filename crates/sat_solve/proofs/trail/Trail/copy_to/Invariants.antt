use Rattle.std.proofs.Common.{◌≡◌, ℕ, ◌<◌, false, length, slice_index_or}
use Rattle.sat_solve.specs.Trail.{set_of, steps_of}
use Rattle.sat_solve.proofs.trail.Trail.copy_to.Given as goal

abbrev pub invariant-loop-var : goal.invariant-loop-var
invariant-loop-var l = record {
  sized : length l.inside.items ≡ l.var;
  same : (k : ℕ) → k < l.var → slice_index_or l.inside.items k false ≡ set_of (steps_of l.self) k;
}
