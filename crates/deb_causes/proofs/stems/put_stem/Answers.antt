use Rattle.std.proofs.Common.{◌++◌, ◌∷◌, [], ◌∙◌, Bor, List, ℕ, append-nil, append_assoc, ap, arith, map, rules, sym, tests}
use Rattle.std.specs.List.{flat_map}
use Rattle.std.proofs.lemmas.Grind.{flat_map-append}
use Rattle.std.proofs.lemmas.Iterator.Consumers.{YieldsList-at, YieldsList-end}
use Rattle.std.proofs.lemmas.Iterator.Splits.{YieldsList-from_slice_split}
use Rattle.std.proofs.lemmas.List.{map-append}
use Rattle.deb_causes.specs.Near.{stem_of_word}
use Rattle.deb_causes.proofs.StemLemmas.{stem-made}
use Rattle.deb_causes.proofs.stems.put_stem.Goals as goal

pub loop-word-preserved : goal.loop-word-preserved
loop-word-preserved c =
    let text : List ℕ → List ℕ = λ word. stem_of_word word ++ 45 ∷ [] in
    let before = map (λ (word : Bor (List ℕ)). word.now) c.loop-word.yielded in
    let word = c.in-Some.word.now in
    c.in_ok-push.ensures.items
    ∙ ap (λ front. front ++ 45 ∷ []) (c.in_ok-push_word.ensures ∙ ap (λ front. front ++ stem_of_word word) c.loop-word.invariant)
    ∙ append_assoc (flat_map text before) (stem_of_word word) (45 ∷ [])
    ∙ ap (λ last. flat_map text before ++ last) (sym (append-nil (text word)))
    ∙ sym (flat_map-append text before (word ∷ []))
    ∙ ap (flat_map text) (sym (map-append (λ (word : Bor (List ℕ)). word.now) c.loop-word.yielded (c.in-Some.word ∷ [])))

pub returns : goal.returns
returns c =
    let words = YieldsList-end
    (YieldsList-at c.into_iter-word-iterator.ensures.into_iter_gives
    (YieldsList-from_slice_split _ _ c.args.name.now c.split-word-items.ensures.rest c.split-word-items.ensures.done c.split-word-items.ensures.closure (λ x r q k. search (rules, tests))))
    c.loop-word.yielded _ c.loop-word.yielded_by _ _ c.in-None.is c.next.ensures.steps in
    c.pop.ensures.rest ∙ stem-made c.args.name.now c.loop-word.out.items _ (c.loop-word.invariant ∙ ap (flat_map (λ word. stem_of_word word ++ 45 ∷ [])) words.0) (omega (arith, c.loop-word.out.ok.0))
