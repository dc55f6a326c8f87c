use Rattle.std.proofs.Common.{ℕ, ◌<◌, List, All, arith, length, get_or, subst, take_all}
use Rattle.std.proofs.lemmas.List.Elements.{All-more}
use Rattle.work_draw_tests.proofs.examples.check_places.Goals as goal

pub loop-place-preserved : goal.loop-place-preserved
loop-place-preserved g c =
    let here : get_or c.args.places.now c.loop-place.place-index 0 < length c.args.index.now.packages = omega arith in
    All-more (λ place. place < length c.args.index.now.packages) c.args.places.now c.loop-place.place-index 0 (omega arith) c.loop-place.invariant here

pub returns : goal.returns
returns g c = subst (λ (l : List ℕ). All (λ place. place < length c.args.index.now.packages) l) (take_all _ _ (omega arith)) c.loop-place.invariant
