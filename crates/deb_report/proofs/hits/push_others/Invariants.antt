use Rattle.std.proofs.Common.{◌≡◌, ◌==◌, ◌++◌, filter, not, take}
use Rattle.deb_report.proofs.hits.push_others.Given as goal

abbrev pub invariant-loop-place : goal.invariant-loop-place
invariant-loop-place l = l.hits.items ≡ l.initial.hits.items ++ filter (λ place. not (place == l.own)) (take l.place-index l.places)
