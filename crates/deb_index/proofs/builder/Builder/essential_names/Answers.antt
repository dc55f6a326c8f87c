use Rattle.std.proofs.Common.{◌≡◌, ◌<◌, ◌≤◌, ◌+◌, ◌∙◌, Vec, Global, ℕ, Some, ap, sym, subst, map, take, length, get_or, slice_get, arith}
use Rattle.std.proofs.lemmas.List.{length-map, take_all}
use Rattle.deb_index.specs.Packages.{IndexView, PackageView, is_essential, is_in, names, package_view}
use Rattle.deb_index.specs.Names.{package_names}
use Rattle.deb_index.proofs.EssentialLemmas.{has_mark, mark-added, mark-past, none-marked, seen-as}
use Rattle.deb_index.proofs.FoundLemmas.{in-order}
use Rattle.deb_index.proofs.NameLemmas.{number-names, numbers-long}
use Rattle.deb_index.proofs.TableLemmas.{first-apart}
use Rattle.deb_index.proofs.builder.Builder.essential_names.Goals as goal
use Rattle.deb_index.proofs.builder.Builder.essential_names.Goals.{then-self-package+in_ok-push, else-self-package}

pub loop-place-init : goal.loop-place-init
loop-place-init c = λ q. ap (λ l. is_in l q) c.new-found.ensures.items ∙ none-marked c.args.self.now.with_essential (slice_get (names c.args.self.now) q)

pub index-requires : goal.index-requires
index-requires c =
    let i = c.self.inside.draft.catalog in
    let within : c.loop-place.place < length i.packages.items = subst (λ l. c.loop-place.place < length l) c.deref-package-items.ensures.value c.loop-place-test.true in
    omega (arith, within, length-map i.packages.items package_view, numbers-long (map package_view i.packages.items) i.numbers.items c.self.invariant.numbered, i.numbers.ok)

pub loop-place-preserved : goal.loop-place-preserved
loop-place-preserved c = λ q.
    let i = c.self.inside.draft.catalog in
    let k = c.loop-place.place in
    let item = c.package-item.result in
    let items = i.packages.items in
    let known = package_names (map package_view items) in
    let within : k < length items = subst (λ l. k < length l) c.deref-package-items.ensures.value c.loop-place-test.true in
    let at : item ≡ get_or items k item = subst (λ l. item ≡ get_or l k item) c.deref-package-items.ensures.value c.package-item.is in
    let so_far = subst (λ (v : IndexView). is_in c.loop-place.found.items q ≡ has_mark v.with_essential (names v) (take k v.packages) q) (sym c.self.view_is) (c.loop-place.invariant q) in
    let P : Vec ℕ Global → IndexView → Type 0 = λ found v. is_in found.items q ≡ has_mark v.with_essential (names v) (take (k + 1) v.packages) q in
    elim c.if-self-package.branch [
      | then-self-package+in_ok-push w ↦
          let n = w.index.result.now in
          let leads = number-names (map package_view items) i.numbers.items k n c.self.invariant.numbered (omega (arith, within, length-map items package_view)) w.index.ensures ∙ ap (λ (p : PackageView). Some p.name) (seen-as i.with_essential known items k item within at q) in
          subst (λ found. P found c.args.self.now) (sym w.found-is) (subst (P w.push.new.self) c.self.view_is
          (ap (λ l. is_in l q) w.in_ok-push.ensures.items ∙ mark-added i.with_essential known items k item within at q n c.loop-place.found.items (first-apart _) leads w.if-self-package.true so_far))
      | else-self-package w ↦
          subst (λ found. P found c.args.self.now) (sym w.found-is) (subst (P c.loop-place.found) c.self.view_is (mark-past i.with_essential known items k item within at q c.loop-place.found.items w.if-self-package.false so_far))
    ]

pub returns : goal.returns
returns c =
    let v = c.args.self.now in
    let same = ap length c.deref-package-items.ensures.value in
    let long = ap (λ (w : IndexView). length w.packages) c.self.view_is in
    let all : length v.packages ≤ c.loop-place.place = omega (arith, same, long, length-map c.self.inside.draft.catalog.packages.items package_view) in
    in-order (is_essential v) (names v) c.sort_once.new.numbers.items c.sort_once.ensures.rising (λ q.
    c.sort_once.ensures.same q ∙ c.loop-place.invariant q ∙ ap (λ ps. has_mark v.with_essential (names v) ps q) (take_all c.loop-place.place v.packages all))
