use Rattle.std.proofs.Common.{◌≤◌, ap, arith, length, subst}
use Rattle.std.proofs.lemmas.List.{length-map}
use Rattle.deb_index.specs.declared.package.Package.{Package}
use Rattle.deb_index.specs.Packages.{IndexView, package_view}
use Rattle.deb_index.specs.Tables.{asked_count, asked_limit}
use Rattle.deb_index.proofs.SmallLemmas.{few-at}
use Rattle.deb_index.proofs.lookup.Lookup.package.Goals as goal

pub returns-clause-few_asked : goal.returns-clause-few_asked
returns-clause-few_asked c =
    let packages = c.self.inside.packages.now in
    let same = ap (λ (v : IndexView). length v.packages) c.self.view_is in
    subst (λ (q : Package). asked_count (package_view q) ≤ asked_limit) c.index-self-place.is
    (omega (arith, few-at packages c.args.place c.index-self-place.result (omega (arith, same, length-map packages package_view)) c.index-self-place.is, c.self.invariant.few_asked))
