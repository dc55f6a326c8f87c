use Rattle.std.proofs.Common.{◌∷◌, [], arith, length, map}
use Rattle.std.proofs.lemmas.List.{length-append, map-append}
use Rattle.std.proofs.lemmas.List.Elements.{All-push}
use Rattle.deb_health.specs.Verdicts.{SpeaksOf, told_view}
use Rattle.deb_report_tests.proofs.reporting.tell_each.Goals as goal

pub loop-place-preserved : goal.loop-place-preserved
loop-place-preserved c =
    let front = c.loop-place.told.items in
    let last = c.in_ok-told_in.field-0 in
    let told = map-append told_view front (last ∷ []) in
    rw c.in_ok-push.ensures.items (
      simp length-append (omega (arith, c.loop-place.invariant.0)),
      rw told (All-push (SpeaksOf c.args.groundwork.now.index.now) (map told_view front) (told_view last) c.loop-place.invariant.1 c.in_ok-told_in.ensures.within),
    )
