use Rattle.sat_solve.proofs.ClauseLemmas.{more_failing, more_free, all_down}
use Rattle.std.proofs.Common.{sym}
use Rattle.sat_solve.specs.Trail.{steps_of}
use Rattle.sat_solve.proofs.trail.Trail.remainder.Goals as goal
use Rattle.sat_solve.proofs.trail.Trail.remainder.Goals.{in-Some+else-value-literal, in-None+else-is_some}

pub loop-literal-preserved : goal.loop-literal-preserved
loop-literal-preserved c =
    elim c.match-value.branch [
      | in-Some+else-value-literal w ↦
          rw w.free-is
          (more_failing c.args.self.now.vars (steps_of c.args.self.now) c.args.clause.now c.loop-literal.literal-index _ c.loop-literal-test.true w.in-Some.value c.loop-literal.free (sym w.in-Some.ensures) w.if-value-literal.false c.loop-literal.invariant)
      | in-None+else-is_some w ↦
          rw w.free-is
          (more_free c.args.self.now.vars (steps_of c.args.self.now) c.args.clause.now c.loop-literal.literal-index _ c.loop-literal-test.true c.loop-literal.free (sym w.if-is_some.ensures) (c.requires.in_range c.loop-literal.literal-index _ c.loop-literal-test.true) (sym w.in-None.ensures) c.loop-literal.invariant)
    ]

pub returns : goal.returns
returns c =
    all_down c.args.self.now.vars (steps_of c.args.self.now) c.args.clause.now c.loop-literal.literal-index c.loop-literal.free c.loop-literal-test.false c.loop-literal.invariant
