use Rattle.std.proofs.Common.{ℕ, List, arith, subst, sym, take, take_all, ◌+◌}
use Rattle.work_draw.specs.Checks.{AnswersEach}
use Rattle.work_draw.proofs.Answered.{AnswersEach_more}
use Rattle.work_draw.proofs.chunks.find_each.Goals as goal

pub loop-place-preserved : goal.loop-place-preserved
loop-place-preserved g c =
    subst (λ (l : List _). AnswersEach (g.F.Finder.finds c.args.finder.now) (take (c.loop-place.place-index + 1) c.args.places.now) l) (sym c.in_ok-push.ensures.items)
    (AnswersEach_more (g.F.Finder.finds c.args.finder.now) c.args.places.now c.loop-place.place-index 0 c.loop-place.found.items c.in_ok-one.one (omega arith) c.loop-place.invariant c.in_ok-one.ensures)

pub find-requires : goal.find-requires
find-requires g c = c.requires c.loop-place.place-index 0 (omega arith)

pub returns : goal.returns
returns g c =
    subst (λ (places : List ℕ). AnswersEach (g.F.Finder.finds c.args.finder.now) places c.loop-place.found.items) (take_all _ _ (omega arith)) c.loop-place.invariant
