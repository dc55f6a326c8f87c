use Rattle.std.proofs.Common.{All, ◌<◌}
use Rattle.number_sets.specs.Sets.{NumberSet}
use Rattle.sat_solve.specs.Reasons.{IsSolution, IsMarkedSolution, IsUsed, Backs, named_by}
use Rattle.sat_solve.specs.Jumps.{IsJump}
use Rattle.sat_solve.proofs.AnalysisLemmas.{WalkedTo}
use Rattle.sat_solve.proofs.analyze.Analysis.analyze.Given as goal

abbrev pub invariant-loop-left : goal.invariant-loop-left
invariant-loop-left l = record {
  used : IsUsed l.problem l.used.items;
  fewer : (set : NumberSet) → IsMarkedSolution l.problem l.used.items set → IsMarkedSolution l.problem l.initial.used.items set;
  walked : WalkedTo (IsSolution l.problem) (IsMarkedSolution l.problem l.used.items) (Backs l.problem l.initial.used.items) (named_by l.problem l.arena) l.trail.steps.items l.left l.self.seen.items l.self.clause.items;
  ranged : All (λ literal. literal.var < l.problem.vars) l.self.clause.items;
  jump : IsJump l.trail.steps.items l.left l.self.target l.self.clause.items;
}

abbrev pub decreases-loop-left : goal.decreases-loop-left
decreases-loop-left l = l.left
