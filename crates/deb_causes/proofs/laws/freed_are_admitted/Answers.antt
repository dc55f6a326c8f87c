use Rattle.deb_causes.proofs.FreedLaw.{freed}
use Rattle.deb_causes.proofs.laws.freed_are_admitted.Goals as goal

pub returns : goal.returns
returns c = freed
