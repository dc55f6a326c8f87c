use Rattle.std.proofs.Common.{◌<◌, ◌+◌, ◌++◌, ◌∷◌, ◌∙◌, [], List, ℕ, ap, sym, subst, map, take, length, arith}
use Rattle.deb_relation.specs.Relationship.{atom_view}
use Rattle.deb_index.specs.declared.names.Names.{Names}
use Rattle.deb_index.specs.Names.{IsNaming, provided_entries}
use Rattle.deb_index.proofs.ProvidedLemmas.{entry-left, entry-taken}
use Rattle.deb_index.proofs.names.Names.add_entries.Goals as goal
use Rattle.deb_index.proofs.names.Names.add_entries.Goals.{then-usable+in_ok-add_entry, else-usable}

pub loop-number-preserved : goal.loop-number-preserved
loop-number-preserved c = λ packages before n.
    let arch = c.args.arch.now in
    let place = c.args.place in
    let entries = c.args.entries.now in
    let i = c.loop-number.number in
    let entry = c.index-entries-number.result in
    let within : i < length entries = omega arith in
    let so_far = before ++ provided_entries arch place (map atom_view (take i entries)) in
    let next = before ++ provided_entries arch place (map atom_view (take (i + 1) entries)) in
    let usable = sym c.usable.ensures in
    elim c.if-usable.branch [
      | then-usable+in_ok-add_entry w ↦
          subst (λ (names : Names). IsNaming packages next names) (sym w.self-is)
          (subst (λ es. IsNaming packages es w.add_entry.new.self)
          (ap (λ (name : List ℕ). so_far ++ (name, (place, i)) ∷ []) w.as_slice.ensures.value ∙ entry-taken arch place entries i entry within c.index-entries-number.is (usable ∙ w.if-usable.true) before)
          (w.in_ok-add_entry.ensures packages so_far (c.loop-number.invariant packages before n)))
      | else-usable w ↦
          subst (λ (names : Names). IsNaming packages next names) (sym w.self-is)
          (subst (λ es. IsNaming packages es c.loop-number.self)
          (entry-left arch place entries i entry within c.index-entries-number.is (usable ∙ w.if-usable.false) before)
          (c.loop-number.invariant packages before n))
    ]
