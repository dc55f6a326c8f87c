use Rattle.std.proofs.Common.{◌≡◌, ℕ, true, take}
use Rattle.sat_solve.specs.Reasons.{variables_of}
use Rattle.sat_solve.specs.Rotation.{HasAt, ListsOn}
use Rattle.sat_solve.proofs.occurrences.push_span.Given as goal

abbrev pub invariant-loop-literal : goal.invariant-loop-literal
invariant-loop-literal l = record {
  on : ListsOn l.initial.lists.items l.lists.items;
  here : (key : ℕ) → variables_of (take l.literal-index l.literals) key ≡ true → HasAt l.lists.items key l.number;
}
