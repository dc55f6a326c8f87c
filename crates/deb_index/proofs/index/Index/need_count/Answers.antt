use Rattle.std.proofs.Common.{arith}
use Rattle.deb_index.proofs.LinkLemmas.{groups-next}
use Rattle.deb_index.proofs.index.Index.need_count.Goals as goal

pub overflow_sub-result : goal.overflow_sub-result
overflow_sub-result c = omega (arith, c.start.ensures.group, c.start-2.ensures.group, groups-next c.args.self.now c.args.place c.requires)

pub returns : goal.returns
returns c = omega (arith, c.start.ensures.group, c.start-2.ensures.group, groups-next c.args.self.now c.args.place c.requires)
