use Rattle.std.proofs.Common.{◌≡◌, map, take}
use Rattle.deb_causes.specs.Near.{near_view}
use Rattle.deb_report.specs.Answers.{answer_at}
use Rattle.deb_report.proofs.answers.answers_to.Given as goal

abbrev pub invariant-loop-place : goal.invariant-loop-place
invariant-loop-place l = map near_view l.answers.items ≡ map (answer_at l.index l.constraint) (take l.place-index l.places)
