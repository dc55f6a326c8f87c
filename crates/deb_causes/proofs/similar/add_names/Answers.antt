use Rattle.std.proofs.Common.{◌<◌, ◌||◌, ◌∙◌, Bor, ap, arith, length, map, sym, take}
use Rattle.std.specs.Str.{bytes_eq}
use Rattle.deb_relation.specs.declared.atom.Atom.{Atom}
use Rattle.deb_relation.specs.Relationship.{atom_view}
use Rattle.deb_causes.specs.Near.{is_one_of, has_text}
use Rattle.number_sets.proofs.ListLemmas.{any_more}
use Rattle.deb_causes.proofs.SimilarLemmas.{or-turned}
use Rattle.deb_causes.proofs.similar.add_names.Goals as goal

pub loop-atom-preserved : goal.loop-atom-preserved
loop-atom-preserved c = λ name.
    let atoms = c.args.atoms.now in
    let i = c.loop-atom.atom-index in
    let own = (atom_view c.atom-item.result.now).name in
    let inside : i < length atoms = omega arith in
    c.in_ok-insert_once.ensures.has name
    ∙ ap (λ text. bytes_eq name text || has_text (map (λ one. one.items) c.loop-atom.own.keys) name) c.as_slice.ensures.value
    ∙ ap (λ rest. bytes_eq name own || rest) (c.loop-atom.invariant name)
    ∙ or-turned name own (is_one_of (map (λ (atom : Bor Atom). atom_view atom.now) (take i atoms)) name)
    ∙ sym (any_more (λ atom. bytes_eq atom.name name) (λ (atom : Bor Atom). atom_view atom.now) atoms i c.atom-item.result inside c.atom-item.is)
