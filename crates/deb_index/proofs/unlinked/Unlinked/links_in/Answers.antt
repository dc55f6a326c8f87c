use Rattle.std.proofs.Common.{◌∙◌, ap, subst}
use Rattle.deb_index.specs.Built.{looked_up}
use Rattle.deb_index.specs.Links.{IsLinked, packages_in}
use Rattle.deb_index.specs.Packages.{IndexView}
use Rattle.deb_index.proofs.LinkLemmas.{if-ok}
use Rattle.deb_index.proofs.ViewLemmas.{linked-whole}
use Rattle.deb_index.proofs.unlinked.Unlinked.links_in.Goals as goal

pub returns : goal.returns
returns c =
    let index = c.args.self.now in
    if-ok c.of.result (λ l k. linked-whole index (packages_in index c.args.from c.args.to) l (subst (λ (v : IndexView). IsLinked v (packages_in v c.args.from c.args.to) l) (c.new.ensures ∙ ap (λ (v : IndexView). looked_up v.arch v.packages) c.self.view_is) k)) c.of.ensures
