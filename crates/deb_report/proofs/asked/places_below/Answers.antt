use Rattle.std.proofs.Common.{◌≡◌, ◌+◌, ◌<◌, ◌∙◌, ap, arith, length, sym}
use Rattle.std.proofs.lemmas.List.FromFn.{length-range_with_len, get_or-range_with_len}
use Rattle.number_sets.proofs.ListLemmas.{range_more}
use Rattle.deb_report.proofs.asked.places_below.Goals as goal

pub loop-place-preserved : goal.loop-place-preserved
loop-place-preserved c =
    let at : 0 + c.loop-place.place ≡ c.loop-place.place = omega arith in
    rw (c.in_ok-push.ensures.items, c.loop-place.invariant) (sym (range_more 0 c.loop-place.place c.loop-place.place at))

pub returns-clause-few : goal.returns-clause-few
returns-clause-few c =
    let count : length c.loop-place.places.items ≡ c.loop-place.place = ap length c.loop-place.invariant ∙ length-range_with_len 0 c.loop-place.place in
    omega arith

pub returns-clause-within : goal.returns-clause-within
returns-clause-within c = λ k d inside.
    let count : length c.loop-place.places.items ≡ c.loop-place.place = ap length c.loop-place.invariant ∙ length-range_with_len 0 c.loop-place.place in
    let within : k < c.loop-place.place = omega arith in
    rw (c.loop-place.invariant, get_or-range_with_len 0 c.loop-place.place k d within) (omega arith)
