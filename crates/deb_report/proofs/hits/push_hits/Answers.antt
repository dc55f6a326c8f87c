use Rattle.deb_report.proofs.HitLemmas.{hit-added}
use Rattle.deb_report.proofs.hits.push_hits.Goals as goal

pub returns-in_ok-push_hit : goal.returns-in_ok-push_hit
returns-in_ok-push_hit c = λ place.
    rw c.in-Apart.is (hit-added c.args.index.now c.in-Apart.place c.in-Apart.number place c.args.hits.now.items c.push_hit.new.hits.items c.in_ok-push_hit.ensures)
