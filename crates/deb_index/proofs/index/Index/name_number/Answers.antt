use Rattle.std.proofs.Common.{◌≡◌, ◌≤◌, Some, None, sym, subst, map, arith}
use Rattle.std.specs.Prelude.{position}
use Rattle.std.specs.Str.{bytes_eq}
use Rattle.deb_index.specs.Packages.{IndexView, names, package_view}
use Rattle.deb_index.proofs.NameLemmas.{front-none, front-past, front-some, names-few}
use Rattle.deb_index.proofs.index.Index.name_number.Goals as goal

pub overflow_cast-result : goal.overflow_cast-result
overflow_cast-result c =
    let counts = c.self.invariant.kept.counts in
    omega (arith, c.if-number-self.true, names-few (map package_view c.self.inside.catalog.packages.items), c.self.invariant.kept.named.front, counts.counted, counts.few)

pub returns-in-Some : goal.returns-in-Some
returns-in-Some c =
    let P : IndexView → Type 0 = λ v. Some c.in-Some.number ≡ position (bytes_eq c.args.name.now) (names v) in
    subst P c.self.view_is (sym (front-some c.self.invariant.kept.named c.args.name.now c.in-Some.number (sym c.in-Some.ensures.number) c.if-number-self.true))

pub returns-in_default : goal.returns-in_default
returns-in_default c =
    let P : IndexView → Type 0 = λ v. position (bytes_eq c.args.name.now) (names v) ≡ None in
    let past : c.self.inside.catalog.names.front ≤ c.in-Some.number = omega (arith, c.if-number-self.false) in
    sym (subst P c.self.view_is (front-past c.self.invariant.kept.named c.args.name.now c.in-Some.number (sym c.in-Some.ensures.number) past))

pub returns-in_default-2 : goal.returns-in_default-2
returns-in_default-2 c =
    let P : IndexView → Type 0 = λ v. position (bytes_eq c.args.name.now) (names v) ≡ None in
    sym (subst P c.self.view_is (front-none c.self.invariant.kept.named c.args.name.now (sym c.in_default.ensures.number)))
