use Rattle.std.proofs.Common.{◌≡◌, ◌++◌, ◌∷◌, ◌∙◌, [], ap, cond, map, not, subst, sym, true}
use Rattle.std.specs.Bool.{MatchBool}
use Rattle.std.specs.List.{list_any}
use Rattle.std.specs.List.Sorted.{IsPermutation}
use Rattle.std.proofs.lemmas.List.{append-nil}
use Rattle.deb_index.specs.Packages.{package_view}
use Rattle.deb_index.specs.Built.{HasKeysOf, key_view, package_key, same_key}
use Rattle.deb_index.proofs.BuiltLemmas.{keys-grow}
use Rattle.deb_index.proofs.FirstLemmas.{any-map}
use Rattle.deb_index.proofs.duplicates.keep_key.Goals as goal

pub returns-in_ok-insert : goal.returns-in_ok-insert
returns-in_ok-insert c =
    let k = package_key (package_view c.args.candidate.now) in
    let key = c.in_ok-of.field-0 in
    let ks = c.args.later.now.keys in
    let new : c.in_ok-insert.field-0 ≡ true =
    c.in_ok-insert.ensures.added ∙ ap not (sym (any-map (same_key (key_view key)) key_view ks) ∙ ap (λ l. list_any (same_key l) (map key_view ks)) c.in_ok-of.ensures ∙ c.requires) in
    subst (λ b. HasKeysOf c.insert.new.self.keys (map key_view ks ++ cond b (k ∷ []) [])) (sym c.if-is_later.true)
    (keys-grow key ks c.insert.new.self.keys k c.in_ok-of.ensures
    (subst (λ b. MatchBool b (IsPermutation (key ∷ ks) c.insert.new.self.keys) (c.insert.new.self.keys ≡ ks)) new c.in_ok-insert.ensures.keys))

pub returns-else-is_later : goal.returns-else-is_later
returns-else-is_later c = λ key.
    let k = package_key (package_view c.args.candidate.now) in
    let ks = c.args.later.now.keys in
    ap (list_any (same_key key)) (sym (append-nil (map key_view ks)) ∙ ap (λ b. map key_view ks ++ cond b (k ∷ []) []) (sym c.if-is_later.false))
