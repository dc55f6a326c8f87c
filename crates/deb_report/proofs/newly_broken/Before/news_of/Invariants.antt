use Rattle.std.proofs.Common.{◌≡◌, filter, map, take}
use Rattle.deb_report.specs.Since.{broken_view, is_news}
use Rattle.deb_health.specs.Verdicts.{shown_view}
use Rattle.deb_report.proofs.newly_broken.Before.news_of.Given as goal

abbrev pub invariant-loop-one : goal.invariant-loop-one
invariant-loop-one l = map shown_view l.news.items ≡ filter (is_news l.self.index.now (map broken_view l.self.packages.now)) (map shown_view (take l.one-index l.broken))
