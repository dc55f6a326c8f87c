use Rattle.std.proofs.Common.{◌∷◌, [], None, ap, length, length-append, arith}
use Rattle.std.proofs.lemmas.List.Elements.{All-push, All-same}
use Rattle.deb_index.specs.Rows.{IsMet}
use Rattle.deb_index.proofs.memo.Memo.new.Goals as goal

pub loop-preserved : goal.loop-preserved
loop-preserved c = (
  omega (arith, c.loop.invariant.0, ap length c.in_ok-push.ensures.items, length-append c.loop.slots.items (None ∷ [])),
  λ index role rows. All-same (IsMet index role rows) _ _ c.in_ok-push.ensures.items (All-push (IsMet index role rows) c.loop.slots.items None (c.loop.invariant.1 index role rows) tt),
)
