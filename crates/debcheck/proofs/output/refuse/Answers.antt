use Rattle.std.proofs.Common.{refl}
use Rattle.debcheck.specs.Program.{TellsOutcome}
use Rattle.debcheck.proofs.ProgramLemmas.{all_told, front_told, help_told}
use Rattle.debcheck.proofs.output.refuse.Goals as goal

pub returns-in-Ok : goal.returns-in-Ok
returns-in-Ok g c = all_told _ _ _ _ c.line_status.ensures c.in-Ok.ensures.told c.in-Ok.ensures.flushed c.in-Ok.ensures.kept

pub returns-in-Help : goal.returns-in-Help
unfolding TellsOutcome
returns-in-Help g c =
    help_told _ _ _ (g.E.Sink.contents c.write_line_fault.new.errors) (g.E.Sink.failed c.write_line_fault.new.errors) _ (rw c.in-Help.is refl) c.status.ensures c.in-Err.ensures.front c.in-Err.ensures.failed c.in-Err.ensures.kept
    (rw c.is_abandoned.ensures at c.tell_outcome.ensures)

pub returns-in-Refused : goal.returns-in-Refused
returns-in-Refused g c =
    front_told _ _ _ _ (rw c.in-Refused.is refl) c.line_status-in-Refused.ensures c.in-Err.ensures.front c.in-Err.ensures.failed c.in-Err.ensures.kept

pub returns-in-Memory : goal.returns-in-Memory
returns-in-Memory g c =
    front_told _ _ _ _ (rw c.in-Memory.is refl) c.line_status-in-Memory.ensures c.in-Err.ensures.front c.in-Err.ensures.failed c.in-Err.ensures.kept
