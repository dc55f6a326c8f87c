use Rattle.run_settings.specs.Settings.{settings_of}
use Rattle.deb_input.specs.Inputs.{input}
use Rattle.debcheck.proofs.PhaseLemmas.{background-honest, earlier-honest}
use Rattle.debcheck.proofs.since.read_before.Goals as goal

pub returns-in-Err-clause-refused : goal.returns-in-Err-clause-refused
returns-in-Err-clause-refused g c = (c.in-Err.fault, c.as_earlier.ensures, c.in-Err.ensures.refused)

pub returns-in-Err-clause-may_fail : goal.returns-in-Err-clause-may_fail
returns-in-Err-clause-may_fail g c = rw c.as_earlier.ensures (background-honest _ c.in-Err.fault c.in-Err.ensures.may_fail)

pub returns-in-Err-clause-earlier_may_fail : goal.returns-in-Err-clause-earlier_may_fail
returns-in-Err-clause-earlier_may_fail g c =
    let earlier = input (g.E.Source.remaining c.args.earlier.now) (g.E.Source.failed c.read_index.new.reader) in
    let background = input (g.B.Source.remaining c.args.background.now) (g.B.Source.failed c.read_index.new.background) in
    rw c.as_earlier.ensures (earlier-honest (settings_of c.args.job.now.config.now) earlier background _ c.in-Err.fault c.in-Err.ensures.refused c.in-Err.ensures.read_may_fail)
