use Rattle.std.proofs.Common.{◌≡◌, ◌<◌, length, map, subst, sym, arith}
use Rattle.deb_index.specs.Packages.{IndexView, name_at, names, package_at, package_view}
use Rattle.deb_index.proofs.NameLemmas.{number-leads, numbers-long}
use Rattle.deb_index.proofs.index.Index.name_of.Goals as goal

pub index-requires : goal.index-requires
index-requires c =
    let packages = map package_view c.self.inside.catalog.packages.items in
    let less = subst (λ (v : IndexView). c.args.place < length v.packages) (sym c.self.view_is) c.requires in
    omega (arith, less, numbers-long packages c.self.inside.catalog.numbers.items c.self.invariant.kept.numbered, c.self.inside.catalog.numbers.ok)

pub returns-clause-within : goal.returns-clause-within
returns-clause-within c =
    let packages = map package_view c.self.inside.catalog.packages.items in
    let less = subst (λ (v : IndexView). c.args.place < length v.packages) (sym c.self.view_is) c.requires in
    subst (λ (v : IndexView). c.index.result.now < length (names v)) c.self.view_is
    (number-leads packages c.self.inside.catalog.numbers.items c.args.place c.index.result.now c.self.invariant.kept.numbered less c.index.ensures).0

pub returns-clause-name : goal.returns-clause-name
returns-clause-name c =
    let packages = map package_view c.self.inside.catalog.packages.items in
    let less = subst (λ (v : IndexView). c.args.place < length v.packages) (sym c.self.view_is) c.requires in
    subst (λ (v : IndexView). name_at v c.index.result.now ≡ (package_at v c.args.place).name) c.self.view_is
    (number-leads packages c.self.inside.catalog.numbers.items c.args.place c.index.result.now c.self.invariant.kept.numbered less c.index.ensures).1
