use Rattle.std.proofs.Common.{rules, ℕ}
use Rattle.number_sets.proofs.ListLemmas.{map-twice}
use Rattle.deb_health.specs.Verdicts.{shown_view, ToldView}
use Rattle.deb_report.proofs.shown.places_of.Goals as goal

pub returns : goal.returns
returns c = rw (map-twice (λ (one : ℕ × ToldView). one.0) shown_view c.args.shown.now) (search rules)
