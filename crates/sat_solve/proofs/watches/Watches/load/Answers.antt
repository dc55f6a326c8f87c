use Rattle.std.proofs.Common.{None, sym}
use Rattle.sat_solve.proofs.SolverLemmas.{went_on, goes_on}
use Rattle.sat_solve.proofs.watches.Watches.load.Goals as goal
use Rattle.sat_solve.proofs.watches.Watches.load.Goals.{in-Some+in_ok-attach, in_default+then-span-ge2+then-problem-span, in_default+then-span-ge2+else-problem-span, in_default+else-span-ge2+in_ok-conflict+else-is_some}

pub loop-clause-preserved : goal.loop-clause-preserved
loop-clause-preserved c =
    elim c.match-span.branch [
      | in-Some+in_ok-attach w ↦ rw w.solver-is c.loop-clause.invariant
      | in_default+then-span-ge2+then-problem-span w ↦ rw w.solver-is c.loop-clause.invariant
      | in_default+then-span-ge2+else-problem-span w ↦ rw w.solver-is c.loop-clause.invariant
      | in_default+else-span-ge2+in_ok-conflict+else-is_some w ↦
          rw w.solver-is (went_on c.args.problem.now c.args.solver.now c.loop-clause.solver w.examine.new.self _ (sym w.if-is_some.ensures) c.loop-clause.invariant w.in_ok-conflict.ensures)
    ]

pub returns : goal.returns
returns c = goes_on c.args.problem.now c.args.solver.now c.loop-clause.solver c.propagate.new.solver None _ c.loop-clause.invariant c.in_ok-propagate.ensures
