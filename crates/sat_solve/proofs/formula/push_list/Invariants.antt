use Rattle.std.proofs.Common.{◌≡◌, ◌+◌, ◌++◌, ◌≤◌, length, map, take}
use Rattle.std.specs.Vec.{vec_len, vec_capacity}
use Rattle.sat_solve.specs.Clauses.{out_of}
use Rattle.sat_solve.proofs.formula.push_list.Given as goal

abbrev pub invariant-loop-var : goal.invariant-loop-var
invariant-loop-var l = record {
  items : l.literals.items ≡ l.initial.literals.items ++ map out_of (take l.var-index l.list);
  room : vec_len l.literals + length l.list ≤ vec_capacity l.literals + l.var-index;
}
