use Rattle.std.proofs.Common.{rules, Global, List, Vec, [], ◌∷◌, ◌++◌, ◌∙◌, ap, append-nil, flat_map, map-id, sym}
use Rattle.std.proofs.lemmas.Grind.{flat_map-append}
use Rattle.std.proofs.lemmas.Iterator.Adapters.{YieldsList-from_vec}
use Rattle.std.proofs.lemmas.Iterator.Consumers.{YieldsList-end}
use Rattle.std.proofs.lemmas.List.Sorted.{IsNonDecreasingBy-from_sort_by_key}
use Rattle.work_draw.specs.declared.pieces.Piece.{Piece}
use Rattle.work_draw.proofs.Rising.{sorted_pieces}
use Rattle.work_draw.proofs.pieces.gather.Goals as goal

abbrev verdicts_in : {T : Type 0} → Piece (Vec T Global) → List T
verdicts_in piece = piece.verdicts.items

pub loop-piece-preserved : goal.loop-piece-preserved
loop-piece-preserved g c =
    let before = c.loop-piece.yielded in
    let piece = c.in-Some.piece in
    c.in_ok-append.ensures.items
    ∙ ap (λ front. front ++ verdicts_in piece) c.loop-piece.invariant
    ∙ sym (flat_map-append verdicts_in before (piece ∷ []) ∙ ap (λ back. flat_map verdicts_in before ++ back) (append-nil (verdicts_in piece)))

pub returns : goal.returns
returns g c =
    let sorted = c.sort_unstable_by_key.new.self.items in
    let moved = c.sort_unstable_by_key.ensures.permutation in
    let rising = IsNonDecreasingBy-from_sort_by_key (λ p. p.number) _ c.sort_unstable_by_key.ensures.sorted (λ a r q k. search rules) in
    let gives = c.into_iter-piece-iterator.ensures.into_iter_gives in
    let end = YieldsList-end (YieldsList-from_vec {s = c.into_iter-piece-iterator.result} sorted gives.0 (search rules))
    c.loop-piece.yielded c.loop-piece.piece-iterator c.loop-piece.yielded_by c.next.result c.next.new.self c.in-None.is c.next.ensures.steps in
    (sorted, moved, sorted_pieces c.args.total c.args.pieces.items sorted c.requires moved rising, c.loop-piece.invariant ∙ ap (flat_map verdicts_in) (sym (map-id c.loop-piece.yielded) ∙ end.0))
