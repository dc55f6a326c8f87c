use Rattle.std.proofs.Common.{◌∙◌, ◌++◌, ◌∷◌, [], ℕ, Bool, List, get_or, map, take, sym, ap}
use Rattle.std.proofs.lemmas.List.{take_more, map-append}
use Rattle.number_sets.proofs.ListMembers.{take_whole}
use Rattle.deb_groundwork.specs.Parts.{positions_in}
use Rattle.deb_verdict.proofs.by_formula.mark_kept.Goals as goal

pub loop-position-preserved : goal.loop-position-preserved
loop-position-preserved c =
    let has : ℕ → Bool = positions_in c.args.part.now in
    let positions : List ℕ = c.args.positions.now in
    let i : ℕ = c.loop-position.position-index in
    c.in_ok-push.ensures.items
    ∙ (ap (λ (list : List Bool). list ++ c.has_next.result ∷ []) c.loop-position.invariant
    ∙ (ap (λ (b : Bool). map has (take i positions) ++ b ∷ []) c.has_next.ensures
    ∙ sym (ap (map has) (take_more positions i 0 c.loop-position-test.true) ∙ map-append has (take i positions) (get_or positions i 0 ∷ []))))

pub returns : goal.returns
returns c = c.loop-position.invariant ∙ ap (map (positions_in c.args.part.now)) (take_whole c.args.positions.now c.loop-position.position-index c.loop-position-test.false)
