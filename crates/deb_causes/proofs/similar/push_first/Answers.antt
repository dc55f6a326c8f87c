use Rattle.std.proofs.Common.{◌≡◌, ◌≤◌, ◌<◌, ◌++◌, ◌∷◌, [], ◌∙◌, ap, arith, false, length, map, sym, true}
use Rattle.std.proofs.lemmas.List.{length-map, map-append}
use Rattle.deb_causes.specs.Near.{similar_limit, has_text}
use Rattle.deb_causes.proofs.SimilarLemmas.{told-full, told-known, told-new}
use Rattle.deb_causes.proofs.similar.push_first.Goals as goal

pub returns-then-len-ge-SIMILAR_LIMIT : goal.returns-then-len-ge-SIMILAR_LIMIT
returns-then-len-ge-SIMILAR_LIMIT c = λ seen is.
    let front = map (λ one. one.items) c.args.names.now.items in
    let full : similar_limit ≤ length front = omega (arith, length-map c.args.names.now.items (λ one. one.items), c.len.ensures) in
    told-full seen c.args.name.now front is full

pub returns-in_ok-push : goal.returns-in_ok-push
returns-in_ok-push c = λ seen is.
    let front = map (λ one. one.items) c.args.names.now.items in
    let name = c.args.name.now in
    let room : length front < similar_limit = omega (arith, length-map c.args.names.now.items (λ one. one.items), c.len.ensures) in
    let new : has_text front name ≡ false = ap (λ names. has_text (map (λ one. one.items) names) name) (sym c.as_slice.ensures.value) ∙ sym c.has_name.ensures ∙ c.if-not-has_name.true in
    ap (map (λ one. one.items)) c.in_ok-push.ensures.items
    ∙ map-append (λ one. one.items) c.args.names.now.items (c.in_ok-from_slice.field-0 ∷ [])
    ∙ ap (λ text. front ++ text ∷ []) c.in_ok-from_slice.ensures.items
    ∙ told-new seen name front is room new

pub returns-else-not-has_name : goal.returns-else-not-has_name
returns-else-not-has_name c = λ seen is.
    let front = map (λ one. one.items) c.args.names.now.items in
    let name = c.args.name.now in
    let known : has_text front name ≡ true = ap (λ names. has_text (map (λ one. one.items) names) name) (sym c.as_slice.ensures.value) ∙ sym c.has_name.ensures ∙ c.if-not-has_name.false in
    told-known seen name front is known
