use Rattle.std.proofs.Common.{◌≡◌, ◌<◌, ◌||◌, ◌++◌, ◌∙◌, ℕ, All, Bor, List, ap, arith, filter, length, map, not, subst, sym, take, true}
use Rattle.std.proofs.Math.Bool.{or-false}
use Rattle.std.proofs.lemmas.List.{take_all}
use Rattle.std.specs.List.{flat_map}
use Rattle.deb_relation.specs.declared.atom.Atom.{Atom}
use Rattle.deb_relation.specs.Relationship.{atom_view, AtomText}
use Rattle.deb_index.specs.Packages.{first_of_each}
use Rattle.deb_causes.specs.Near.{IsTold, first_told, first_with_stem, has_text, is_one_of, names_of, similar_names, similar_to, stem, stems_in}
use Rattle.number_sets.proofs.ListLemmas.{all_at}
use Rattle.deb_causes.proofs.SimilarLemmas.{names-more}
use Rattle.deb_causes.proofs.similar.Similar.names.Goals as goal

abbrev view : Bor Atom → AtomText
view atom = atom_view atom.now

pub loop-atom-init : goal.loop-atom-init
unfolding first_of_each
loop-atom-init c =
    let own = map view c.deref-atom-items.result.now in
    let none = c.new-2.ensures.items in
    record {
      names_are = ap (map (λ name. name.now)) none;
      known_are = λ name. c.in_ok-add_names.ensures name
          ∙ ap (λ atoms. is_one_of (map view atoms) name) (c.deref.ensures.value ∙ sym c.deref-atom-items.ensures.value)
          ∙ sym (or-false (is_one_of own name))
          ∙ ap (λ xs. is_one_of own name || has_text (map (λ one. one.now) xs) name) (sym none);
    }

pub list-requires : goal.list-requires
list-requires c =
    let stems = stems_in c.args.self.now in
    let atoms = c.deref-atom-items.result.now in
    let sought : AtomText → Type 0 = λ atom. has_text stems (stem atom.name) ≡ true in
    let inside : c.loop-atom.atom-index < length atoms = omega arith in
    ap (has_text stems) (c.as_slice-in-loop-atom.ensures.value ∙ c.in_ok-put_stem.ensures ∙ ap stem c.as_slice.ensures.value)
    ∙ all_at sought view atoms c.loop-atom.atom-index c.atom-item.result inside c.atom-item.is (subst (All sought) (sym (ap (map view) c.deref-atom-items.ensures.value ∙ c.in_ok-atoms.ensures)) c.requires.sought)

pub loop-atom-preserved : goal.loop-atom-preserved
loop-atom-preserved c =
    let index = c.args.index.now in
    let atoms = c.deref-atom-items.result.now in
    let i = c.loop-atom.atom-index in
    let own = map view atoms in
    let similar : AtomText → List (List ℕ) = λ atom. similar_to index atom.name in
    let before = flat_map similar (map view (take i atoms)) in
    let inside : i < length atoms = omega arith in
    let seen = flat_map (names_of index.arch) index.packages in
    let listed : map (λ one. one.items) c.list.result.now ≡ similar (view c.atom-item.result) =
    c.list.ensures seen c.requires.found
    ∙ ap (first_with_stem seen) (c.as_slice-in-loop-atom.ensures.value ∙ c.in_ok-put_stem.ensures ∙ ap stem c.as_slice.ensures.value) in
    subst (λ texts. IsTold own texts c.push_all.new.self)
    (ap (λ last. before ++ last) listed ∙ sym (names-more similar view atoms i c.atom-item.result (view c.atom-item.result) inside (ap view c.atom-item.is)))
    (c.in_ok-push_all.ensures own before c.loop-atom.invariant)

pub returns : goal.returns
unfolding similar_names
returns c =
    let atoms = c.deref-atom-items.result.now in
    let similar : AtomText → List (List ℕ) = λ atom. similar_to c.args.index.now atom.name in
    c.loop-atom.invariant.names_are
    ∙ ap (λ xs. first_told (filter (λ name. not (is_one_of (map view atoms) name)) (flat_map similar (map view xs)))) (take_all c.loop-atom.atom-index atoms (omega arith))
    ∙ ap (λ texts. first_told (filter (λ name. not (is_one_of texts name)) (flat_map similar texts))) (ap (map view) c.deref-atom-items.ensures.value ∙ c.in_ok-atoms.ensures)
