use Rattle.std.proofs.Common.{rules}
use Rattle.std.specs.Ordering.{is_lt}
use Rattle.std.proofs.lemmas.List.Sorted.{IsPartitionPoint-from_clause}
use Rattle.deb_index.proofs.VersionLemmas.{ordering, parted-lt}
use Rattle.deb_index.proofs.versions.Versions.below.Goals as goal

pub returns-clause-point : goal.returns-clause-point
returns-clause-point c =
    let offers = c.args.self.now.offers.items in
    IsPartitionPoint-from_clause (λ o. is_lt (ordering offers c.args.than.now o)) offers c.partition_point.result (rw c.deref.ensures.value at c.partition_point.ensures.partitioned)
    (parted-lt offers c.args.than.now c.args.self.now.ordered) (λ a r q k. search rules)
