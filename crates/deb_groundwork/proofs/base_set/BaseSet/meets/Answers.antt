use Rattle.deb_groundwork.proofs.BaseLemmas.{base_meets}
use Rattle.deb_groundwork.proofs.base_set.BaseSet.meets.Goals as goal

pub returns : goal.returns
returns c seen = base_meets c.args.part.now c.args.self.now c.requires (c.meets_essentials.ensures seen)
