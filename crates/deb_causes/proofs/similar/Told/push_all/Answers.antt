use Rattle.std.proofs.Common.{◌<◌, ◌++◌, ◌∷◌, [], ◌∙◌, ℕ, List, Vec, Global, ap, append_assoc, length, map, subst, sym, take}
use Rattle.deb_causes.specs.Near.{IsTold}
use Rattle.number_sets.proofs.AtomSteps.{map_more}
use Rattle.deb_causes.proofs.similar.Told.push_all.Goals as goal

pub loop-name-preserved : goal.loop-name-preserved
loop-name-preserved c = λ own seen is.
    let names = c.args.names.now in
    let i = c.loop-name.name-index in
    let text : Vec ℕ Global → List ℕ = λ one. one.items in
    let inside : i < length names = c.loop-name-test.true in
    let front = map text (take i names) in
    subst (λ texts. IsTold own texts c.push.new.self)
    (append_assoc seen front (c.as_slice.result.now ∷ [])
    ∙ ap (λ (last : List ℕ). seen ++ (front ++ last ∷ [])) (c.as_slice.ensures.value ∙ ap text c.name-item.is)
    ∙ ap (λ back. seen ++ back) (sym (map_more text names i c.name-item.result inside)))
    (c.in_ok-push.ensures own (seen ++ front) (c.loop-name.invariant own seen is))
