use Rattle.std.proofs.Common.{map}
use Rattle.deb_health.specs.Verdicts.{told_view}
use Rattle.deb_report.specs.Content.{before_view}
use Rattle.deb_report.proofs.ReportLemmas.{few-counts}
use Rattle.deb_report.proofs.layout.report_told.Goals as goal

pub summary_of-requires-clause-asked : goal.summary_of-requires-clause-asked
summary_of-requires-clause-asked c =
    (few-counts c.args.index.now c.args.asked.now (map told_view c.args.told.now) (before_view c.args.before) _ c.in_ok-text.ensures.counts c.requires.few).0

pub summary_of-requires-clause-broken : goal.summary_of-requires-clause-broken
summary_of-requires-clause-broken c =
    (few-counts c.args.index.now c.args.asked.now (map told_view c.args.told.now) (before_view c.args.before) _ c.in_ok-text.ensures.counts c.requires.few).1

pub summary_of-requires-clause-news : goal.summary_of-requires-clause-news
summary_of-requires-clause-news c =
    (few-counts c.args.index.now c.args.asked.now (map told_view c.args.told.now) (before_view c.args.before) _ c.in_ok-text.ensures.counts c.requires.few).2
