use Rattle.deb_control.proofs.CutLemmas.{stanzas-uncut}
use Rattle.deb_index.proofs.parts.first_part.Goals as goal

pub returns-then-workers-lt2-clause-stanzas : goal.returns-then-workers-lt2-clause-stanzas
returns-then-workers-lt2-clause-stanzas c = stanzas-uncut c.args.text.now
