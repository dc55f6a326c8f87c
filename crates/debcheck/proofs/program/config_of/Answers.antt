use Rattle.std.proofs.Common.{map, refl, string_bytes}
use Rattle.debcheck.specs.Program.{Asks}
use Rattle.debcheck.proofs.ProgramLemmas.{asks_read}
use Rattle.debcheck.proofs.program.config_of.Goals as goal

pub returns-in-Ok-clause-asked : goal.returns-in-Ok-clause-asked
returns-in-Ok-clause-asked c = rw c.in-Ok.is (asks_read (map string_bytes c.in-Ok.words.items) c.read_line.result c.read_line.ensures.accepted c.read_line.ensures.refused)

pub returns-in-Err-clause-asked : goal.returns-in-Err-clause-asked
unfolding Asks
returns-in-Err-clause-asked c = rw c.in-Err.is refl
