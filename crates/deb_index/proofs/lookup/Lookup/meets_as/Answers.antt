use Rattle.std.proofs.Common.{◌≡◌, ◌≤◌, ◌∙◌, false, ap, length, map, sym, subst}
use Rattle.std.proofs.lemmas.List.{length-map}
use Rattle.deb_relation.specs.Relationship.{atom_view}
use Rattle.deb_index.specs.declared.meets.Role.{Role}
use Rattle.deb_index.specs.Packages.{IndexView, PackageView, package_view}
use Rattle.deb_index.specs.Rows.{meets_as, meets_as_at}
use Rattle.deb_index.proofs.SeenLemmas.{seen-at, seen-none}
use Rattle.deb_index.proofs.lookup.Lookup.meets_as.Goals as goal

pub returns-in_default : goal.returns-in_default
returns-in_default c =
    let look = c.self.inside in
    let atom = atom_view c.args.atom.now in
    let packages = look.packages.now in
    let P : IndexView → Type 0 = λ v. false ≡ meets_as_at c.args.role v c.args.place atom in
    let past : length (map package_view packages) ≤ c.args.place = subst (λ n. n ≤ c.args.place) (sym (length-map packages package_view)) c.in_default.ensures.lookup.3 in
    subst P c.self.view_is (seen-none (λ (q : PackageView). meets_as c.args.role look.arch.now q atom) false (map package_view packages) c.args.place past)

pub returns-in-Alternative : goal.returns-in-Alternative
returns-in-Alternative c =
    let look = c.self.inside in
    let atom = atom_view c.args.atom.now in
    let asked = c.in-Some.asked.now in
    let lookup = c.in-Some.ensures.lookup in
    let P : IndexView → Type 0 = λ v. meets_as c.args.role look.arch.now (package_view asked) atom ≡ meets_as_at c.args.role v c.args.place atom in
    let there = subst P c.self.view_is (seen-at package_view (λ (q : PackageView). meets_as c.args.role look.arch.now q atom) false look.packages.now c.args.place asked lookup.3.0 lookup.1) in
    c.meets_need.ensures ∙ ap (λ (role : Role). meets_as role look.arch.now (package_view asked) atom) (sym c.in-Alternative.is) ∙ there

pub returns-in-Entry : goal.returns-in-Entry
returns-in-Entry c =
    let look = c.self.inside in
    let atom = atom_view c.args.atom.now in
    let asked = c.in-Some.asked.now in
    let lookup = c.in-Some.ensures.lookup in
    let P : IndexView → Type 0 = λ v. meets_as c.args.role look.arch.now (package_view asked) atom ≡ meets_as_at c.args.role v c.args.place atom in
    let there = subst P c.self.view_is (seen-at package_view (λ (q : PackageView). meets_as c.args.role look.arch.now q atom) false look.packages.now c.args.place asked lookup.3.0 lookup.1) in
    c.meets.ensures ∙ ap (λ (role : Role). meets_as role look.arch.now (package_view asked) atom) (sym c.in-Entry.is) ∙ there
