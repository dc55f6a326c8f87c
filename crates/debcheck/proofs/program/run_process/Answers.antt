use Rattle.debcheck.specs.Program.{EndsSomehow}
use Rattle.debcheck.proofs.program.run_process.Goals as goal

pub returns : goal.returns
unfolding EndsSomehow
returns g c = rw c.from.ensures (_, _, _, _, _, c.run_program-ended.ensures)
