use Rattle.debcheck.proofs.BackgroundLemmas.{fails-alone, report-alone}
use Rattle.debcheck.proofs.laws.without_background.Goals as goal

pub returns : goal.returns
returns c = record {
  report = report-alone;
  faults = fails-alone;
}
