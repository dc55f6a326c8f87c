use Rattle.std.proofs.Common.{◌<◌, ◌≤◌, arith}
use Rattle.sat_solve.specs.SolverState.{height}
use Rattle.sat_solve.proofs.SolverLemmas.{first_found, full_fails, work_left_falls}
use Rattle.sat_solve.proofs.MarkLemmas.{none_answered}
use Rattle.sat_solve.proofs.search.Workspace.solve.Goals as goal
use Rattle.sat_solve.proofs.search.Workspace.solve.Goals.{in-Some+in_ok-backjump+else-not-branch, in_default+in_ok-decide+then-not-branch-2+in_ok-is_solution+else-branch+in_ok-backjump-2+else-not-branch-3, in_default+in_ok-decide+else-not-branch-2}

pub returns-then-not-branch : goal.returns-then-not-branch
returns-then-not-branch c = none_answered c.args.problem.now c.backjump.new.self.solver.used.items c.in_ok-backjump.ensures.solver.used (c.in_ok-backjump.ensures.none c.if-not-branch.true)

pub returns-then-branch : goal.returns-then-branch
returns-then-branch c = record {
  rising = c.in_ok-members.ensures.rising;
  first = first_found c.args.problem.now c.decide.new.self c.in_ok-members.field-0.items c.in_ok-decide.ensures.solver (c.in_ok-is_solution.ensures.yes c.if-branch.true) c.in_ok-members.ensures.same;
  none = tt;
  sized = tt;
  kept = tt;
  marked = tt;
}

pub backjump-requires-then-not-branch-2-clause-conflict : goal.backjump-requires-then-not-branch-2-clause-conflict
backjump-requires-then-not-branch-2-clause-conflict c =
    full_fails c.args.problem.now c.decide.new.self c.in_ok-decide.ensures.solver (c.in_ok-decide.ensures.full c.if-not-branch-2.true) (c.in_ok-is_solution.ensures.no c.if-branch.false)

pub returns-then-not-branch-3 : goal.returns-then-not-branch-3
returns-then-not-branch-3 c =
    none_answered c.args.problem.now c.backjump-then-not-branch-2.new.self.solver.used.items c.in_ok-backjump-2.ensures.solver.used (c.in_ok-backjump-2.ensures.none c.if-not-branch-3.true)

pub propagate-requires : goal.propagate-requires
propagate-requires c =
    elim c.match-found.branch [
      | in-Some+in_ok-backjump+else-not-branch w ↦ record { solver = rw w.self-is w.in_ok-backjump.ensures.solver }
      | in_default+in_ok-decide+then-not-branch-2+in_ok-is_solution+else-branch+in_ok-backjump-2+else-not-branch-3 w ↦ record { solver = rw w.self-is w.in_ok-backjump-2.ensures.solver }
      | in_default+in_ok-decide+else-not-branch-2 w ↦ record { solver = rw w.self-is w.in_ok-decide.ensures.solver }
    ]

pub rounds-smaller : goal.rounds-smaller
rounds-smaller c =
    let higher : height c.args.problem.now c.rounds.self.solver < height c.args.problem.now c.match-found.self.solver =
    elim c.match-found.branch [
      | in-Some+in_ok-backjump+else-not-branch w ↦ rw w.self-is (w.in_ok-backjump.ensures.turned w.if-not-branch.false)
      | in_default+in_ok-decide+then-not-branch-2+in_ok-is_solution+else-branch+in_ok-backjump-2+else-not-branch-3 w ↦
          let turned : height c.args.problem.now w.decide.new.self < height c.args.problem.now w.backjump-then-not-branch-2.new.self.solver = w.in_ok-backjump-2.ensures.turned w.if-not-branch-3.false in
          let rises : height c.args.problem.now c.rounds.self.solver ≤ height c.args.problem.now w.decide.new.self = w.in_ok-decide.ensures.rises in
          rw w.self-is (omega arith)
      | in_default+in_ok-decide+else-not-branch-2 w ↦ rw w.self-is (w.in_ok-decide.ensures.higher w.if-not-branch-2.false)
    ] in
    let rises : height c.args.problem.now c.match-found.self.solver ≤ height c.args.problem.now c.propagate.new.solver = c.in_ok-found-2.ensures.rises in
    work_left_falls c.args.problem.now c.rounds.self.solver c.propagate.new.solver c.rounds.invariant.solver (omega arith)
