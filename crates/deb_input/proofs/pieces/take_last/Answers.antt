use Rattle.std.proofs.Common.{rules}
use Rattle.run_settings.specs.Settings.{settings_of}
use Rattle.deb_input.proofs.PieceLemmas.{refuses-last, takes-last}
use Rattle.deb_input.proofs.pieces.take_last.Goals as goal

pub returns-in-Ok-clause-outcome : goal.returns-in-Ok-clause-outcome
returns-in-Ok-clause-outcome g c = takes-last (settings_of c.args.config.now) c.args.front c.args.held.now c.in-Ok.whole c.in-Ok.ensures.accepted

pub returns-in-Err-clause-outcome : goal.returns-in-Err-clause-outcome
returns-in-Err-clause-outcome g c = refuses-last (settings_of c.args.config.now) c.args.front c.args.held.now c.in-Err.fault c.in-Err.ensures.refused (search rules)
