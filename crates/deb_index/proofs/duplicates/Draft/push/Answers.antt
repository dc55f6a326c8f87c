use Rattle.std.proofs.Common.{◌≡◌, ◌++◌, ◌∷◌, ◌∙◌, ◌+◌, false, List, ℕ, [], cond, ap, get_or, length, sym, subst, map, arith}
use Rattle.std.specs.List.{list_any}
use Rattle.std.proofs.lemmas.List.{get_or_push, length-map, map-append}
use Rattle.deb_index.specs.declared.duplicates.Draft.{Draft}
use Rattle.deb_index.specs.declared.package.Package.{Package}
use Rattle.deb_index.specs.Packages.{package_view}
use Rattle.deb_index.specs.Tables.{number_in}
use Rattle.deb_index.specs.Names.{name_texts}
use Rattle.deb_index.specs.Built.{HasKeysOf, draft_view, key_view, package_key, same_key}
use Rattle.deb_index.proofs.BuiltLemmas.{adds-package, built-push}
use Rattle.deb_index.proofs.KeyLemmas.{key-apart}
use Rattle.deb_index.proofs.NameLemmas.{named-some, number-few, position-known}
use Rattle.deb_index.proofs.duplicates.Draft.push.Goals as goal

-- the package at the next place is the one that was put down there
kept-is : (items new : List Package) (x kept : Package) (place : ℕ) → new ≡ items ++ x ∷ [] → length items ≡ place → kept ≡ get_or new place kept → kept ≡ x
kept-is items new x kept place pushed long at = at ∙ ap (λ ps. get_or ps place kept) pushed ∙ get_or_push items x kept place long

pub keep_key-requires : goal.keep_key-requires
keep_key-requires c =
    let old = c.args.self.now in
    let kept = kept-is c.args.self.now.catalog.packages.items _ c.args.candidate c.index-kept.result.now c.len-place.result c.in_ok-push.ensures.items (omega (arith, c.args.self.now.catalog.packages.ok, c.len-place.ensures)) c.index-kept.ensures in
    subst (λ (k : Package). list_any (same_key (package_key (package_view k))) (map key_view old.later.keys) ≡ false) (sym kept)
    (key-apart (package_view c.args.candidate) (draft_view old).packages (map key_view old.later.keys) c.requires.built.known c.requires.apart)

pub add-requires : goal.add-requires
add-requires c =
    let p = package_view c.args.candidate in
    let kept = kept-is c.args.self.now.catalog.packages.items _ c.args.candidate c.index-kept.result.now c.len-place.result c.in_ok-push.ensures.items (omega (arith, c.args.self.now.catalog.packages.ok, c.len-place.ensures)) c.index-kept.ensures in
    let name : p.name ≡ c.as_slice-name.result.now = sym (c.as_slice-name.ensures.value ∙ ap (λ (k : Package). (package_view k).name) kept) in
    c.requires.known ∙ position-known c.requires.built.named p.name ∙ ap (λ k. number_in k (name_texts c.args.self.now.catalog.names)) name

pub overflow_cast-number : goal.overflow_cast-number
overflow_cast-number c =
    let p = package_view c.args.candidate in
    let old = c.args.self.now.catalog in
    let packages = map package_view old.packages.items in
    let kept = kept-is c.args.self.now.catalog.packages.items _ c.args.candidate c.index-kept.result.now c.len-place.result c.in_ok-push.ensures.items (omega (arith, c.args.self.now.catalog.packages.ok, c.len-place.ensures)) c.index-kept.ensures in
    let name : p.name ≡ c.as_slice-name.result.now = sym (c.as_slice-name.ensures.value ∙ ap (λ (k : Package). (package_view k).name) kept) in
    let named = c.in_ok-number.ensures.named packages p c.requires.built.named name (omega (arith, length-map old.packages.items package_view, old.packages.ok, c.len-place.ensures)) in
    let number = ap (λ k. number_in k (name_texts c.add.new.self)) name ∙ c.in_ok-number.ensures.number in
    let counts = c.requires.built.counts in
    omega (arith, number-few packages p named c.in_ok-number.number number, counts.counted, counts.few)

pub returns-clause-built : goal.returns-clause-built
returns-clause-built c =
    let p = package_view c.args.candidate in
    let old = c.args.self.now in
    let i = old.catalog in
    let packages = map package_view i.packages.items in
    let kept = kept-is c.args.self.now.catalog.packages.items _ c.args.candidate c.index-kept.result.now c.len-place.result c.in_ok-push.ensures.items (omega (arith, c.args.self.now.catalog.packages.ok, c.len-place.ensures)) c.index-kept.ensures in
    let name : p.name ≡ c.as_slice-name.result.now = sym (c.as_slice-name.ensures.value ∙ ap (λ (k : Package). (package_view k).name) kept) in
    let named = c.in_ok-number.ensures.named packages p c.requires.built.named name (omega (arith, length-map i.packages.items package_view, i.packages.ok, c.len-place.ensures)) in
    let number = ap (λ k. number_in k (name_texts c.add.new.self)) name ∙ c.in_ok-number.ensures.number in
    let longer = ap (map package_view) c.in_ok-push.ensures.items ∙ map-append package_view i.packages.items (c.args.candidate ∷ []) in
    let some = c.is_some.ensures ∙ named-some packages p.name c.args.known c.requires.known in
    let keys = subst (λ b. HasKeysOf c.keep_key.new.later.keys (map key_view old.later.keys ++ cond b (package_key p ∷ []) [])) some
    (subst (λ (k : Package). HasKeysOf c.keep_key.new.later.keys (map key_view old.later.keys ++ cond c.is_some.result (package_key (package_view k) ∷ []) [])) kept c.in_ok-keep_key.ensures) in
    let new : Draft = record old { catalog = record i { packages = c.push.new.self; numbers = c.push-2.new.self; names = c.add.new.self; stanzas = i.stanzas + 1 }; later = c.keep_key.new.later } in
    built-push old c.requires.built p new c.in_ok-number.number (ap (λ ps. record (draft_view old) { packages = ps; stanzas = i.stanzas + 1 }) longer)
    c.requires.few c.requires.room named c.in_ok-push-2.ensures.items number keys

pub returns-clause-added : goal.returns-clause-added
returns-clause-added c =
    let p = package_view c.args.candidate in
    let old = draft_view c.args.self.now in
    let longer = ap (map package_view) c.in_ok-push.ensures.items ∙ map-append package_view c.args.self.now.catalog.packages.items (c.args.candidate ∷ []) in
    ap (λ ps. record old { packages = ps; stanzas = old.stanzas + 1 }) longer ∙ adds-package old p c.requires.apart
