use Rattle.std.proofs.Common.{ap, length, arith}
use Rattle.number_sets.proofs.EndLemmas.{rows-length}
use Rattle.number_sets.proofs.rows.RowStore.len.Goals as goal

pub returns : goal.returns
returns c =
    let r = c.self.inside in
    let counted = r.ends.ok in
    omega (arith, rows-length 0 r.places.items r.ends.items r.kept.items c.self.invariant.1, ap length c.self.view_is)
