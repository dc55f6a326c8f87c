use Rattle.std.proofs.Common.{◌≡◌, ◌<◌, ◌+◌, ◌++◌, ◌∷◌, [], ◌∙◌, append_assoc, ap, arith, false, length, subst, sym, take, true}
use Rattle.std.proofs.lemmas.List.{take_all}
use Rattle.deb_relation.specs.Relationship.{atom_view, is_usable}
use Rattle.deb_index.specs.Packages.{package_view}
use Rattle.deb_causes.specs.declared.similar.Similar.{Similar}
use Rattle.deb_causes.specs.Near.{IsFoundIn, stems_in}
use Rattle.deb_causes.proofs.SimilarLemmas.{provided, provided-more, provided-same}
use Rattle.deb_causes.proofs.similar.Similar.add_package.Goals as goal
use Rattle.deb_causes.proofs.similar.Similar.add_package.Goals.{then-usable+in_ok-add-2, else-usable}

pub loop-entry-preserved : goal.loop-entry-preserved
loop-entry-preserved c =
    let arch = c.args.arch.now in
    let entries = c.as_slice-entry-items.result.now in
    let i = c.loop-entry.entry-index in
    let entry = c.entry-item.result in
    let inside : i < length entries = omega arith in
    let before = provided arch (take i entries) in
    let next = provided arch (take (i + 1) entries) in
    elim c.if-usable.branch [
      | then-usable+in_ok-add-2 w ↦
          let passes : is_usable arch (atom_view entry).qualifier ≡ true = sym c.usable.ensures ∙ w.if-usable.true in (
            λ seen is. subst (λ (similar : Similar). IsFoundIn (seen ++ next) similar) (sym w.self-is)
                (subst (λ texts. IsFoundIn texts w.add-then-usable.new.self)
                (ap (λ text. (seen ++ before) ++ text ∷ []) w.as_slice-then-usable.ensures.value ∙ append_assoc seen before ((atom_view entry).name ∷ [])
                ∙ ap (λ texts. seen ++ texts) (sym (provided-more arch entries i entry inside c.entry-item.is passes)))
                (w.in_ok-add-2.ensures.found (seen ++ before) (c.loop-entry.invariant.0 seen is))),
            ap stems_in w.self-is ∙ w.in_ok-add-2.ensures.stems ∙ c.loop-entry.invariant.1,
          )
      | else-usable w ↦
          let fails : is_usable arch (atom_view entry).qualifier ≡ false = sym c.usable.ensures ∙ w.if-usable.false in (
            λ seen is. subst (λ (similar : Similar). IsFoundIn (seen ++ next) similar) (sym w.self-is)
                (subst (λ texts. IsFoundIn texts c.loop-entry.self) (ap (λ texts. seen ++ texts) (sym (provided-same arch entries i entry inside c.entry-item.is fails)))
                (c.loop-entry.invariant.0 seen is)),
            ap stems_in w.self-is ∙ c.loop-entry.invariant.1,
          )
    ]

pub returns-clause-found : goal.returns-clause-found
returns-clause-found c = λ seen is.
    let arch = c.args.arch.now in
    let deb = package_view c.args.deb.now in
    let entries = c.as_slice-entry-items.result.now in
    let name = c.as_slice.result.now in
    let whole : take c.loop-entry.entry-index entries ≡ entries = take_all _ _ (omega arith) in
    subst (λ texts. IsFoundIn texts c.loop-entry.self)
    (append_assoc seen (name ∷ []) (provided arch (take c.loop-entry.entry-index entries))
    ∙ ap (λ text. seen ++ text ∷ provided arch (take c.loop-entry.entry-index entries)) c.as_slice.ensures.value
    ∙ ap (λ xs. seen ++ deb.name ∷ provided arch xs) (whole ∙ c.as_slice-entry-items.ensures.value))
    (c.loop-entry.invariant.0 (seen ++ name ∷ []) (c.in_ok-add.ensures.found seen is))
