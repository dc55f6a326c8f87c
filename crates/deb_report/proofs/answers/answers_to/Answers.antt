use Rattle.std.proofs.Common.{◌<◌, arith, length}
use Rattle.std.proofs.lemmas.List.Elements.{All-same}
use Rattle.deb_report.specs.Walk.{brought}
use Rattle.deb_report.proofs.WalkLemmas.{brought-within}
use Rattle.deb_report.proofs.answers.answers_to.Goals as goal

pub answer_at-requires-clause-place : goal.answer_at-requires-clause-place
answer_at-requires-clause-place c =
    let index = c.args.index.now in
    let places = c.in_ok-places.places.now in
    let inside : c.loop-place.place-index < length places = omega arith in
    All-same (λ place. place < length index.packages) places (brought index c.args.constraint) c.in_ok-places.ensures (brought-within index c.args.constraint)
    c.loop-place.place-index 0 inside
