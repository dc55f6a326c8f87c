use Rattle.debcheck.proofs.RunLemmas.{refused-memory}
use Rattle.debcheck.proofs.laws.refused_for_memory.Goals as goal

pub returns : goal.returns
returns c = refused-memory
