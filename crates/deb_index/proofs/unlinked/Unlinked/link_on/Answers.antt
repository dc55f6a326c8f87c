use Rattle.std.proofs.Common.{IfOk, subst}
use Rattle.deb_index.specs.Links.{IsLinked}
use Rattle.deb_index.proofs.PartLemmas.{range-all}
use Rattle.deb_index.proofs.unlinked.Unlinked.link_on.Goals as goal

pub with_links-requires : goal.with_links-requires
with_links-requires g c = subst (λ ps. IfOk c.links_on-links.result (λ l. IsLinked c.args.self ps l)) (range-all c.args.self.packages c.len.result c.len.ensures.value) c.links_on-links.ensures
