use Rattle.number_sets.specs.Sets.{members_of}
use Rattle.deb_groundwork.proofs.InstallableLemmas.{healthy_from_all}
use Rattle.deb_groundwork.proofs.base_set.BaseSet.is_healthy.Goals as goal

pub returns : goal.returns
returns c seen = healthy_from_all c.args.index.now (members_of c.args.self.now.members) (c.meets.ensures seen)
