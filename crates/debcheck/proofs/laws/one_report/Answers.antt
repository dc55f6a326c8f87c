use Rattle.debcheck.proofs.OneReport.{one_report}
use Rattle.debcheck.proofs.laws.one_report.Goals as goal

pub returns : goal.returns
returns c = one_report c.one_verdict.ensures.told
