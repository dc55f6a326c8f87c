use Rattle.std.proofs.Common.{◌≡◌, ◌<◌, ◌∙◌, All, Bor, ap, arith, length, map, subst, sym, true}
use Rattle.std.proofs.lemmas.List.{take_all}
use Rattle.std.specs.HashMap.{keys}
use Rattle.deb_relation.specs.declared.atom.Atom.{Atom}
use Rattle.deb_relation.specs.Relationship.{atom_view, AtomText}
use Rattle.deb_causes.specs.Near.{stem, has_text}
use Rattle.deb_causes.proofs.SimilarLemmas.{more-has, more-keep, sought-more}
use Rattle.deb_causes.proofs.stems.stems_of.Goals as goal

abbrev view : Bor Atom → AtomText
view atom = atom_view atom.now

pub loop-atom-preserved : goal.loop-atom-preserved
loop-atom-preserved c =
    let atoms = c.deref-atom-items.result.now in
    let olds = map (λ key. key.items) (keys c.loop-atom.lists) in
    let news = map (λ key. key.items) (keys c.add_stem.new.lists) in
    let text = c.as_slice-in-loop-atom.result.now in
    let inside : c.loop-atom.atom-index < length atoms = omega arith in
    let key : stem (view c.atom-item.result).name ≡ text =
    sym (c.as_slice-in-loop-atom.ensures.value ∙ c.in_ok-put_stem.ensures ∙ ap stem c.as_slice.ensures.value) in (
      sought-more view olds news atoms c.loop-atom.atom-index c.atom-item.result inside c.atom-item.is c.loop-atom.invariant.0 (more-keep olds news text c.in_ok-add_stem.ensures.has)
          (more-has olds news text c.in_ok-add_stem.ensures.has (stem (view c.atom-item.result).name) key),
      c.in_ok-add_stem.ensures.none c.loop-atom.invariant.1,
    )

pub returns-clause-sought : goal.returns-clause-sought
returns-clause-sought c =
    let atoms = c.deref-atom-items.result.now in
    let sought : AtomText → Type 0 = λ atom. has_text (map (λ key. key.items) (keys c.loop-atom.lists)) (stem atom.name) ≡ true in
    subst (All sought) (ap (map view) (take_all c.loop-atom.atom-index atoms (omega arith) ∙ c.deref-atom-items.ensures.value) ∙ c.in_ok-atoms.ensures) c.loop-atom.invariant.0
