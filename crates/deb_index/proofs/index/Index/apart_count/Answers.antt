use Rattle.std.proofs.Common.{arith}
use Rattle.deb_index.proofs.LinkLemmas.{entries-next}
use Rattle.deb_index.proofs.index.Index.apart_count.Goals as goal

pub overflow_sub-result : goal.overflow_sub-result
overflow_sub-result c = omega (arith, c.start.ensures.entry, c.start-2.ensures.entry, entries-next c.args.self.now c.args.place c.requires)

pub returns : goal.returns
returns c = omega (arith, c.start.ensures.entry, c.start-2.ensures.entry, entries-next c.args.self.now c.args.place c.requires)
