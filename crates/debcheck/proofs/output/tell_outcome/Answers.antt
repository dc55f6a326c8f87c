use Rattle.std.proofs.Common.{◌∙◌, refl, sym}
use Rattle.debcheck.specs.Program.{TellsOutcome}
use Rattle.debcheck.proofs.ProgramLemmas.{tells_fault, tells_nothing, tells_something}
use Rattle.debcheck.proofs.output.tell_outcome.Goals as goal

pub returns-in-Ok : goal.returns-in-Ok
unfolding TellsOutcome
returns-in-Ok g c = rw c.in-Ok.is refl

pub returns-then-is_silent : goal.returns-then-is_silent
unfolding TellsOutcome
returns-then-is_silent g c = rw c.in-Err.is (tells_nothing _ _ c.in-Err.fault (sym c.is_silent.ensures ∙ c.if-is_silent.true) refl)

pub returns-else-is_silent : goal.returns-else-is_silent
unfolding TellsOutcome
returns-else-is_silent g c =
    rw c.in-Err.is (tells_something _ _ c.in-Err.fault (sym c.is_silent.ensures ∙ c.if-is_silent.false)
    (tells_fault _ _ c.write_fault.result c.write_fault.ensures.line c.write_fault.ensures.flushed c.write_fault.ensures.part c.write_fault.ensures.failed))
