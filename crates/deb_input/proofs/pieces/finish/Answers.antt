use Rattle.run_settings.specs.Settings.{settings_of}
use Rattle.deb_input.proofs.PieceLemmas.{fault-finishes}
use Rattle.deb_input.proofs.pieces.finish.Goals as goal

pub returns-in-Err-clause-refused : goal.returns-in-Err-clause-refused
returns-in-Err-clause-refused g c = rw c.in-Err.is (fault-finishes (settings_of c.args.config.now) c.in-Err.fault c.args.more.now)
