use Rattle.sat_solve.proofs.SolverLemmas.{goes_on}
use Rattle.sat_solve.proofs.watches.Watches.visit.Goals as goal
use Rattle.sat_solve.proofs.watches.Watches.visit.Goals.{then-is_some, else-is_some+in-Stay, else-is_some+in-Move, else-is_some+in-Examine+in_ok-conflict-in-Examine}

pub watches-preserved : goal.watches-preserved
watches-preserved c =
    elim c.if-is_some.branch [
      | then-is_some w ↦ rw (w.solver-is, w.conflict-is) c.watches.invariant
      | else-is_some+in-Stay w ↦ rw (w.solver-is, w.conflict-is) c.watches.invariant
      | else-is_some+in-Move w ↦ rw (w.solver-is, w.conflict-is) c.watches.invariant
      | else-is_some+in-Examine+in_ok-conflict-in-Examine w ↦
          rw (w.solver-is, w.conflict-is)
          (goes_on c.args.problem.now c.args.solver.now c.watches.solver w.examine.new.self c.watches.conflict _ c.watches.invariant w.in_ok-conflict-in-Examine.ensures)
    ]
