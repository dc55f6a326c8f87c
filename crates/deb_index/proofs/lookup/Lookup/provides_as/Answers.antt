use Rattle.std.proofs.Common.{◌≡◌, ◌<◌, ◌≤◌, ◌&&◌, ◌∙◌, ℕ, List, Bool, true, false, ap, length, map, get_or, sym, subst}
use Rattle.std.proofs.lemmas.List.{length-map}
use Rattle.deb_relation.specs.Relationship.{atom_view, AtomText}
use Rattle.deb_relation.specs.declared.atom.Atom.{Atom}
use Rattle.deb_index.specs.declared.meets.Role.{Role}
use Rattle.deb_index.specs.declared.package.Package.{Package}
use Rattle.deb_index.specs.Packages.{IndexView, PackageView, package_view}
use Rattle.deb_index.specs.Built.{looked_up}
use Rattle.deb_index.specs.Meets.{meets_bound, provided_version}
use Rattle.deb_index.specs.Rows.{provides_as, provides_as_at, usable_as}
use Rattle.deb_index.proofs.SeenLemmas.{seen-at, seen-none}
use Rattle.deb_index.proofs.lookup.Lookup.provides_as.Goals as goal

-- the test of the package at a place
package-there : (role : Role) (arch : List ℕ) (packages : List Package) (e : ℕ × ℕ) (atom : AtomText) (p : Package) → e.0 < length packages → p ≡ get_or packages e.0 p
    → provides_as role arch (package_view p) e.1 atom ≡ provides_as_at role (looked_up arch (map package_view packages)) e atom
package-there role arch packages e atom p within at = seen-at package_view (λ (q : PackageView). provides_as role arch q e.1 atom) false packages e.0 p within at

-- and that of its entry with a number
entry-there : (role : Role) (arch : List ℕ) (p : Package) (i : ℕ) (atom : AtomText) (entry : Atom) (usable : Bool) → usable_as role arch (package_view p) atom ≡ usable
    → i < length p.provides.items → entry ≡ get_or p.provides.items i entry → (usable && meets_bound (provided_version (atom_view entry)) atom.bound) ≡ provides_as role arch (package_view p) i atom
entry-there role arch p i atom entry usable is within at =
    ap (λ b. b && meets_bound (provided_version (atom_view entry)) atom.bound) (sym is)
    ∙ seen-at atom_view (λ (a : AtomText). usable_as role arch (package_view p) atom && meets_bound (provided_version a) atom.bound) false p.provides.items i entry within at

pub returns-in_default : goal.returns-in_default
returns-in_default c =
    let look = c.self.inside in
    let atom = atom_view c.args.atom.now in
    let packages = look.packages.now in
    let i = c.args.entry.0 in
    let P : IndexView → Type 0 = λ v. false ≡ provides_as_at c.args.role v c.args.entry atom in
    let past : length (map package_view packages) ≤ i = subst (λ n. n ≤ i) (sym (length-map packages package_view)) c.in_default.ensures.lookup.3 in
    subst P c.self.view_is (seen-none (λ (q : PackageView). provides_as c.args.role look.arch.now q c.args.entry.1 atom) false (map package_view packages) i past)

pub returns-in-None : goal.returns-in-None
returns-in-None c =
    let look = c.self.inside in
    let role = c.args.role in
    let arch = look.arch.now in
    let atom = atom_view c.args.atom.now in
    let p = c.in-Some.provider.now in
    let i = c.args.entry.1 in
    let found = c.in-Some.ensures.lookup in
    let P : IndexView → Type 0 = λ v. false ≡ provides_as_at role v c.args.entry atom in
    let past : length (package_view p).provides ≤ i = subst (λ n. n ≤ i) (sym (length-map p.provides.items atom_view)) (subst (λ l. length l ≤ i) c.deref.ensures.value c.in-None.ensures.lookup.3) in
    subst P c.self.view_is (seen-none (λ (a : AtomText). usable_as role arch (package_view p) atom && meets_bound (provided_version a) atom.bound) false (package_view p).provides i past
    ∙ package-there role arch look.packages.now c.args.entry atom p found.3.0 found.1)

pub returns-then-usable_as : goal.returns-then-usable_as
returns-then-usable_as c =
    let look = c.self.inside in
    let role = c.args.role in
    let arch = look.arch.now in
    let atom = atom_view c.args.atom.now in
    let p = c.in-Some.provider.now in
    let i = c.args.entry.1 in
    let provided = c.in-Some-get.provided.now in
    let found = c.in-Some.ensures.lookup in
    let lookup = c.in-Some-get.ensures.lookup in
    let same = c.deref.ensures.value in
    let P : IndexView → Type 0 = λ v. c.provided_meets.result ≡ provides_as_at role v c.args.entry atom in
    subst P c.self.view_is (c.provided_meets.ensures
    ∙ entry-there role arch p i atom provided true (sym c.usable_as.ensures ∙ c.if-usable_as.true)
    (subst (λ l. i < length l) same lookup.3.0) (subst (λ l. provided ≡ get_or l i provided) same lookup.1)
    ∙ package-there role arch look.packages.now c.args.entry atom p found.3.0 found.1)

pub returns-else-usable_as : goal.returns-else-usable_as
returns-else-usable_as c =
    let look = c.self.inside in
    let role = c.args.role in
    let arch = look.arch.now in
    let atom = atom_view c.args.atom.now in
    let p = c.in-Some.provider.now in
    let i = c.args.entry.1 in
    let provided = c.in-Some-get.provided.now in
    let found = c.in-Some.ensures.lookup in
    let lookup = c.in-Some-get.ensures.lookup in
    let same = c.deref.ensures.value in
    let P : IndexView → Type 0 = λ v. c.usable_as.result ≡ provides_as_at role v c.args.entry atom in
    subst P c.self.view_is (
    c.if-usable_as.false ∙ entry-there role arch p i atom provided false (sym c.usable_as.ensures ∙ c.if-usable_as.false)
    (subst (λ l. i < length l) same lookup.3.0) (subst (λ l. provided ≡ get_or l i provided) same lookup.1)
    ∙ package-there role arch look.packages.now c.args.entry atom p found.3.0 found.1)
