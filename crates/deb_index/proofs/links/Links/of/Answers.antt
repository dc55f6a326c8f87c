use Rattle.std.proofs.Common.{sym, subst}
use Rattle.deb_index.specs.declared.links.Links.{Links}
use Rattle.deb_index.specs.Links.{IsLinked, packages_in}
use Rattle.deb_index.proofs.links.Links.of.Goals as goal

pub returns : goal.returns
returns c =
    subst (λ (l : Links). IsLinked c.args.lookup.now (packages_in c.args.lookup.now c.args.from c.args.to) l)
    (λ i. record { starts = c.in_ok-starts.field-0; groups = sym c.into_rows-groups.ensures i; entries = sym c.into_rows-entries.ensures i }) c.in_ok-starts.ensures
