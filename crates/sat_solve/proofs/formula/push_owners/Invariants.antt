use Rattle.std.proofs.Common.{◌≡◌, ◌+◌, ◌++◌, ◌≤◌, length, map, take}
use Rattle.std.specs.Vec.{vec_len, vec_capacity}
use Rattle.sat_solve.specs.Clauses.{span_of}
use Rattle.sat_solve.proofs.formula.push_owners.Given as goal

abbrev pub invariant-loop-owner : goal.invariant-loop-owner
invariant-loop-owner l = record {
  items : l.spans.items ≡ l.initial.spans.items ++ map (span_of l.start l.end) (take l.owner-index l.owners);
  room : vec_len l.spans + length l.owners ≤ vec_capacity l.spans + l.owner-index;
}
