use Rattle.std.proofs.Common.{rules}
use Rattle.std.specs.Ordering.{is_lt}
use Rattle.std.proofs.lemmas.List.Sorted.{answers_always, ranks_by}
use Rattle.deb_relation.specs.VersionOrder.{version_cmp}
use Rattle.deb_relation.proofs.OrderLaws.{version_total}
use Rattle.deb_index.specs.declared.versions.Offer.{Offer}
use Rattle.deb_index.proofs.versions.Versions.new.Goals as goal

pub invariant_of-result : goal.invariant_of-result
invariant_of-result c = record {
  ordered = c.sort_unstable_by.ensures.sorted (λ (a b : Offer). is_lt (version_cmp a.version.now b.version.now)) (ranks_by version_total (λ (o : Offer). o.version.now))
      (answers_always _ _ _ (λ f a r g k. search rules));
}
