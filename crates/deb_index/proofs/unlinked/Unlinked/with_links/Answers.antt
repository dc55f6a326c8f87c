use Rattle.std.proofs.Common.{sym, subst}
use Rattle.deb_index.specs.Links.{IsLinked}
use Rattle.deb_index.specs.Packages.{IndexView}
use Rattle.deb_index.proofs.unlinked.Unlinked.with_links.Goals as goal

pub invariant_of-result : goal.invariant_of-result
invariant_of-result c =
    let made : IsLinked c.args.self c.args.self.packages c.in_ok-links.links = rw c.in_ok-links.was at c.requires in
    record { kept = c.self.invariant; linked = subst (λ (v : IndexView). IsLinked v v.packages c.in_ok-links.links) (sym c.self.view_is) made }
