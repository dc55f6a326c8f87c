use Rattle.std.proofs.Common.{◌<◌, ◌≤◌, ◌+◌, ◌∙◌, ◌||◌, Bool, List, ℕ, ap, length, refl, sym, arith}
use Rattle.std.specs.List.{list_any}
use Rattle.std.proofs.lemmas.List.{take_all}
use Rattle.deb_relation.specs.Relationship.{atom_view}
use Rattle.deb_index.specs.Packages.{is_in}
use Rattle.deb_index.specs.Rows.{provides_as_at}
use Rattle.deb_index.proofs.FoundLemmas.{added-all, added-some, any-taken, or-more, or-none}
use Rattle.deb_index.proofs.ProviderLemmas.{any-more, is_entry_of}
use Rattle.deb_index.proofs.lookup.Lookup.add_providers.Goals as goal

pub loop-entry-init : goal.loop-entry-init
loop-entry-init c = λ q. sym (or-none (is_in c.args.found.now.items q))

pub loop-entry-preserved : goal.loop-entry-preserved
loop-entry-preserved c = λ q.
    let provides : ℕ × ℕ → Bool = λ e. provides_as_at c.args.role c.args.self.now e (atom_view c.args.atom.now) in
    let within : c.loop-entry.entry-index < length c.args.entries.now = omega arith in
    c.in_ok-add_if.ensures.all c.if-not-branch.false q
    ∙ any-more (λ (e : ℕ × ℕ). e.0) q (is_in c.args.found.now.items q) (is_in c.loop-entry.found.items q) provides c.args.entries.now c.loop-entry.entry-index _ (0, 0) _ within refl c.provides_as.ensures (c.loop-entry.invariant q)

pub returns-then-not-branch : goal.returns-then-not-branch
returns-then-not-branch c =
    let provides : ℕ × ℕ → Bool = λ e. provides_as_at c.args.role c.args.self.now e (atom_view c.args.atom.now) in
    let within : c.loop-entry.entry-index < length c.args.entries.now = omega arith in
    added-some _ _ _ _ _ _ _ c.in_ok-add_if.ensures c.if-not-branch.true (λ q there.
    or-more (is_in c.args.found.now.items q) _ _ (any-taken (is_entry_of c.args.role c.args.self.now (atom_view c.args.atom.now) q) (c.loop-entry.entry-index + 1) c.args.entries.now)
    (sym (any-more (λ (e : ℕ × ℕ). e.0) q (is_in c.args.found.now.items q) (is_in c.loop-entry.found.items q) provides c.args.entries.now c.loop-entry.entry-index _ (0, 0) _ within refl c.provides_as.ensures (c.loop-entry.invariant q)) ∙ there))

pub returns : goal.returns
returns c = added-all _ _ _ _ (λ q.
    let all : length c.args.entries.now ≤ c.loop-entry.entry-index = omega arith in
    c.loop-entry.invariant q
    ∙ ap (λ (es : List (ℕ × ℕ)). is_in c.args.found.now.items q || list_any (is_entry_of c.args.role c.args.self.now (atom_view c.args.atom.now) q) es) (take_all c.loop-entry.entry-index c.args.entries.now all))
