use Rattle.std.proofs.Common.{◌<◌, ◌≤◌, ◌+◌, ◌||◌, ◌∙◌, Bool, ap, length, map, refl, sym, arith}
use Rattle.deb_relation.specs.Relationship.{AtomText, atom_view}
use Rattle.deb_index.specs.Packages.{PackageView, is_in}
use Rattle.deb_index.specs.Rows.{meets_as, meets_as_at}
use Rattle.std.specs.List.{list_any}
use Rattle.std.proofs.lemmas.List.{take_all}
use Rattle.deb_index.proofs.FoundLemmas.{among-few, asked-at, atom-more, atoms-taken, found-all, found-some, in-order}
use Rattle.deb_index.proofs.satisfiers.Satisfiers.find.Goals as goal

pub loop-atom-init : goal.loop-atom-init
loop-atom-init c = (refl, λ q. ap (λ l. is_in l q) c.clear.ensures.items)

pub loop-atom-preserved : goal.loop-atom-preserved
loop-atom-preserved c =
    let so_far = c.loop-atom.invariant in (
      c.in_ok-add_found.ensures.index ∙ so_far.0,
      λ q.
          let meets : AtomText → Bool = meets_as_at c.args.role c.args.self.now q in
          let within : c.loop-atom.atom-index < length c.args.asked.now = omega arith in
          c.in_ok-add_found.ensures.added.all c.if-not-branch.false q ∙ (λ i. so_far.1 q i || meets_as_at c.args.role (so_far.0 i) q (atom_view c.atom-item.result))
          ∙ sym (atom-more meets c.args.asked.now c.loop-atom.atom-index c.atom-item.result within c.atom-item.is),
    )

pub returns-then-not-branch-clause-found : goal.returns-then-not-branch-clause-found
returns-then-not-branch-clause-found c =
    let index = c.args.self.now in
    let asked = map atom_view c.args.asked.now in
    let within : c.loop-atom.atom-index < length c.args.asked.now = omega arith in
    let added = c.in_ok-add_found.ensures.added in
    let so_far = c.loop-atom.invariant in
    found-some _ _ _ (added.more c.if-not-branch.true)
    (among-few (λ (q : PackageView). list_any (meets_as c.args.role index.arch q) asked) index.packages _ (added.rising c.if-not-branch.true) (λ q there.
    let meets : AtomText → Bool = meets_as_at c.args.role index q in
    sym (asked-at c.args.role index asked q) ∙ atoms-taken meets c.args.asked.now (c.loop-atom.atom-index + 1)
    (atom-more meets c.args.asked.now c.loop-atom.atom-index c.atom-item.result within c.atom-item.is
    ∙ (λ i. sym (so_far.1 q) i || meets_as_at c.args.role (sym so_far.0 i) q (atom_view c.atom-item.result)) ∙ added.among q there)))

pub returns-clause-found : goal.returns-clause-found
returns-clause-found c =
    let index = c.args.self.now in
    let asked = map atom_view c.args.asked.now in
    let all : length c.args.asked.now ≤ c.loop-atom.atom-index = omega arith in
    found-all _ _ _ (in-order (λ (q : PackageView). list_any (meets_as c.args.role index.arch q) asked) index.packages _ c.sort_once.ensures.rising (λ q.
    c.sort_once.ensures.same q ∙ c.loop-atom.invariant.1 q ∙ ap (λ some. list_any (meets_as_at c.args.role index q) (map atom_view some)) (take_all c.loop-atom.atom-index c.args.asked.now all)
    ∙ asked-at c.args.role index asked q))
