use Rattle.std.proofs.Common.{◌≡◌, subst, length, map, arith}
use Rattle.deb_index.specs.Packages.{IndexView, names, package_view}
use Rattle.deb_index.proofs.NameLemmas.{names-few}
use Rattle.deb_index.proofs.index.Index.name_count.Goals as goal

pub overflow_cast-result : goal.overflow_cast-result
overflow_cast-result c =
    let counts = c.self.invariant.kept.counts in
    omega (arith, names-few (map package_view c.self.inside.catalog.packages.items), c.self.invariant.kept.named.front, counts.counted, counts.few)

pub returns : goal.returns
returns c = subst (λ (v : IndexView). c.self.inside.catalog.names.front ≡ length (names v)) c.self.view_is c.self.invariant.kept.named.front
