use Rattle.std.proofs.Common.{◌<◌, ◌≤◌, ◌+◌, ◌∙◌, ◌&&◌, ◌||◌, Bool, List, ℕ, ap, length, refl, sym, arith}
use Rattle.std.proofs.lemmas.List.{take_all}
use Rattle.deb_relation.specs.Relationship.{atom_view}
use Rattle.deb_index.specs.Packages.{is_in}
use Rattle.deb_index.specs.Rows.{meets_as_at}
use Rattle.deb_index.proofs.FoundLemmas.{added-all, added-some, asked-more, asked-taken, or-none}
use Rattle.deb_index.proofs.lookup.Lookup.add_named.Goals as goal

pub loop-place-init : goal.loop-place-init
loop-place-init c = λ q. sym (or-none (is_in c.args.found.now.items q))

pub loop-place-preserved : goal.loop-place-preserved
loop-place-preserved c = λ q.
    let meets : ℕ → Bool = λ r. meets_as_at c.args.role c.args.self.now r (atom_view c.args.atom.now) in
    let within : c.loop-place.place-index < length c.args.places.now = omega arith in
    c.in_ok-add_if.ensures.all c.if-not-branch.false q
    ∙ asked-more (is_in c.args.found.now.items q) (is_in c.loop-place.found.items q) meets c.args.places.now c.loop-place.place-index _ q _ within refl c.meets_as.ensures (c.loop-place.invariant q)

pub returns-then-not-branch : goal.returns-then-not-branch
returns-then-not-branch c =
    let meets : ℕ → Bool = λ r. meets_as_at c.args.role c.args.self.now r (atom_view c.args.atom.now) in
    let within : c.loop-place.place-index < length c.args.places.now = omega arith in
    added-some _ _ _ _ _ _ _ c.in_ok-add_if.ensures c.if-not-branch.true (λ q there.
    asked-taken (is_in c.args.found.now.items q) meets c.args.places.now (c.loop-place.place-index + 1) q
    (sym (asked-more (is_in c.args.found.now.items q) (is_in c.loop-place.found.items q) meets c.args.places.now c.loop-place.place-index _ q _ within refl c.meets_as.ensures (c.loop-place.invariant q)) ∙ there))

pub returns : goal.returns
returns c = added-all _ _ _ _ (λ q.
    let all : length c.args.places.now ≤ c.loop-place.place-index = omega arith in
    c.loop-place.invariant q
    ∙ ap (λ (ps : List ℕ). is_in c.args.found.now.items q || (is_in ps q && meets_as_at c.args.role c.args.self.now q (atom_view c.args.atom.now))) (take_all c.loop-place.place-index c.args.places.now all))
