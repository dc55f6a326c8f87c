use Rattle.std.proofs.Common.{◌≡◌, ◌∙◌, ◌||◌, ap, sym, map, arith, rules, true, false}
use Rattle.std.specs.List.{list_any}
use Rattle.std.specs.Str.{bytes_eq}
use Rattle.std.proofs.lemmas.List.{length-map}
use Rattle.deb_index.specs.Packages.{package_view}
use Rattle.deb_index.specs.Built.{key_view, package_key, same_key}
use Rattle.deb_index.proofs.KeyLemmas.{first-within, known-first, known-none}
use Rattle.deb_index.proofs.FirstLemmas.{any-map}
use Rattle.deb_index.proofs.NameLemmas.{position-known}
use Rattle.deb_index.proofs.duplicates.Draft.contains.Goals as goal

pub returns-in_default : goal.returns-in_default
returns-in_default c =
    let p = package_view c.args.candidate.now in
    let built = c.requires.built in
    let places = c.places_known.ensures _ _ p.name built.named (c.requires.known ∙ position-known built.named p.name) in
    sym (known-none p (map package_view c.args.self.now.catalog.packages.items) c.places_known.result.now places c.in_default.len_below)

pub index-requires : goal.index-requires
index-requires c =
    let p = package_view c.args.candidate.now in
    let built = c.requires.built in
    let items = c.args.self.now.catalog.packages.items in
    let places = c.places_known.ensures _ _ p.name built.named (c.requires.known ∙ position-known built.named p.name) in
    let within = first-within p.name (map package_view items) c.places_known.result.now places c.in-len1-up.len_at_least in
    omega (arith, within, length-map items package_view, c.args.self.now.catalog.packages.ok)

pub returns-then-eq : goal.returns-then-eq
returns-then-eq c =
    let p = package_view c.args.candidate.now in
    let built = c.requires.built in
    let places = c.places_known.ensures _ _ p.name built.named (c.requires.known ∙ position-known built.named p.name) in
    let later = map key_view c.args.self.now.later.keys in
    let known = known-first p c.args.self.now.catalog.packages.items later c.places_known.result.now c.index.result.now built.known places c.in-len1-up.len_at_least c.index.ensures in
    let same : bytes_eq (package_view c.index.result.now).version p.version ≡ true = search rules in
    sym (known ∙ ap (λ b. b || list_any (same_key (package_key p)) later) same)

pub returns : goal.returns
returns c =
    let p = package_view c.args.candidate.now in
    let built = c.requires.built in
    let places = c.places_known.ensures _ _ p.name built.named (c.requires.known ∙ position-known built.named p.name) in
    let keys = c.args.self.now.later.keys in
    let later = map key_view keys in
    let known = known-first p c.args.self.now.catalog.packages.items later c.places_known.result.now c.index.result.now built.known places c.in-len1-up.len_at_least c.index.ensures in
    let other : bytes_eq (package_view c.index.result.now).version p.version ≡ false = search rules in
    c.contains.ensures ∙ sym (any-map (same_key (key_view c.in_ok-key.key)) key_view keys) ∙ ap (λ k. list_any (same_key k) later) c.in_ok-key.ensures
    ∙ sym (known ∙ ap (λ b. b || list_any (same_key (package_key p)) later) other)
