use Rattle.std.proofs.Common.{rules}
use Rattle.std.specs.Ordering.{is_le}
use Rattle.std.proofs.lemmas.List.Sorted.{IsPartitionPoint-from_clause}
use Rattle.deb_index.proofs.VersionLemmas.{ordering, parted-le}
use Rattle.deb_index.proofs.versions.Versions.up_to.Goals as goal

pub returns-clause-point : goal.returns-clause-point
returns-clause-point c =
    let offers = c.args.self.now.offers.items in
    IsPartitionPoint-from_clause (λ o. is_le (ordering offers c.args.than.now o)) offers c.partition_point.result (rw c.deref.ensures.value at c.partition_point.ensures.partitioned)
    (parted-le offers c.args.than.now c.args.self.now.ordered) (λ a r q k. search rules)
