use Rattle.std.proofs.Common.{Err, Ok, refl}
use Rattle.debcheck.specs.Program.{Ends, RunsTo}
use Rattle.debcheck.proofs.program.run_program.Goals as goal

pub returns-in-Ok : goal.returns-in-Ok
unfolding Ends RunsTo
returns-in-Ok g c =
    (Ok c.in-Ok.config, c.in-Ok.ensures.asked, (c.name_and_run-outcome.result, c.status.ensures, rw (← c.is_abandoned.ensures) c.tell_outcome.ensures, c.name_and_run-outcome.ensures))

pub returns-in-Err : goal.returns-in-Err
unfolding Ends
returns-in-Err g c = (Err c.in-Err.fault, c.in-Err.ensures.asked, (c.requires.reader, refl, c.refuse-status.ensures))
