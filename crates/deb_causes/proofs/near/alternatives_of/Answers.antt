use Rattle.std.proofs.Common.{◌++◌, ◌∷◌, [], ◌∙◌, append-nil, ap, get_or, sym, take}
use Rattle.std.proofs.lemmas.Grind.{flat_map-append}
use Rattle.std.proofs.lemmas.List.{take_all, take_more}
use Rattle.std.specs.List.{flat_map}
use Rattle.deb_index.specs.declared.constraint.Constraint.TheVariants.{Essential}
use Rattle.deb_causes.specs.Near.{alternatives}
use Rattle.deb_causes.proofs.near.alternatives_of.Goals as goal

pub loop-constraint-preserved : goal.loop-constraint-preserved
loop-constraint-preserved c =
    let f = alternatives c.args.index.now in
    let before = take c.loop-constraint.constraint-index c.args.constraints.now in
    let one = get_or c.args.constraints.now c.loop-constraint.constraint-index (Essential 0) in
    c.in_ok-push_alternatives.ensures
    ∙ ap (λ front. front ++ f one) c.loop-constraint.invariant
    ∙ ap (λ last. flat_map f before ++ last) (sym (append-nil (f one)))
    ∙ sym (flat_map-append f before (one ∷ []))
    ∙ ap (flat_map f) (sym (take_more c.args.constraints.now c.loop-constraint.constraint-index (Essential 0) c.loop-constraint-test.true))

pub returns : goal.returns
returns c =
    c.loop-constraint.invariant
    ∙ ap (flat_map (alternatives c.args.index.now)) (take_all c.loop-constraint.constraint-index c.args.constraints.now c.loop-constraint-test.false)
