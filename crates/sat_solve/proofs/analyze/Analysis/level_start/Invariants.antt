use Rattle.std.proofs.Common.{◌≡◌, ℕ, ◌<◌, ◌≤◌, false}
use Rattle.sat_solve.specs.Reasons.{is_seen}
use Rattle.sat_solve.specs.Jumps.{IsAt}
use Rattle.sat_solve.specs.declared.trail.Step.{Step}
use Rattle.sat_solve.proofs.analyze.Analysis.level_start.Given as goal

abbrev pub invariant-loop-start : goal.invariant-loop-start
invariant-loop-start l = record {
  before : l.start ≤ l.place;
  alone : (other : ℕ) (step : Step) → l.start ≤ other → other < l.place → IsAt l.trail.steps.items other step → is_seen l.self.seen.items step.var ≡ false;
}

abbrev pub decreases-loop-start : goal.decreases-loop-start
decreases-loop-start l = l.start
