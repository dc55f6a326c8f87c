use Rattle.std.proofs.Common.{◌<◌, ◌++◌, ◌∷◌, [], ◌∙◌, ℕ, append_assoc, ap, arith, get_or, length, map, sym, take}
use Rattle.std.proofs.lemmas.List.{take_all}
use Rattle.deb_index.specs.Meets.{provided_at}
use Rattle.deb_index.specs.Packages.{places_of}
use Rattle.number_sets.proofs.AtomSteps.{map_more}
use Rattle.deb_causes.proofs.near.push_near.Goals as goal

abbrev first : ℕ × ℕ → ℕ
first pair = pair.0

pub loop-pair-preserved : goal.loop-pair-preserved
loop-pair-preserved c =
    let old = c.extend_from_slice.new.self.items in
    let pairs = provided_at c.args.index.now c.args.name.now in
    let i = c.loop-pair.pair-index in
    let inside : i < length pairs = omega (arith, ap length c.provides_of-pair-items.ensures, c.loop-pair-test.true) in
    let seen = map first (take i pairs) in
    let next = first (get_or c.provides_of-pair-items.result.now i (0, 0)) in
    c.in_ok-push.ensures.items
    ∙ ap (λ front. front ++ next ∷ []) c.loop-pair.invariant
    ∙ append_assoc old seen (next ∷ [])
    ∙ ap (λ xs. old ++ (seen ++ first (get_or xs i (0, 0)) ∷ [])) c.provides_of-pair-items.ensures
    ∙ ap (λ back. old ++ back) (sym (map_more first pairs i (0, 0) inside))

pub returns : goal.returns
returns c =
    let old = c.args.places.now.items in
    let pairs = provided_at c.args.index.now c.args.name.now in
    let named = places_of c.args.index.now c.args.name.now in
    let seen = map first (take c.loop-pair.pair-index pairs) in
    c.loop-pair.invariant
    ∙ ap (λ front. front ++ seen) (c.in_ok-extend_from_slice.ensures.items ∙ ap (λ places. old ++ places) c.places_of.ensures)
    ∙ append_assoc old named seen
    ∙ ap (λ xs. old ++ (named ++ map first xs)) (take_all c.loop-pair.pair-index pairs (omega (arith, ap length c.provides_of-pair-items.ensures)))
