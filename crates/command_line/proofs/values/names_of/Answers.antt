use Rattle.std.proofs.Common.{◌∙◌, ◌++◌, ◌∷◌, [], ap, ap₂, lit<, map, sym}
use Rattle.std.proofs.lemmas.Iterator.Consumers.{YieldsList-at, YieldsList-end}
use Rattle.std.proofs.lemmas.List.{map-append}
use Rattle.std.proofs.lemmas.Iterator.Splits.{YieldsList-from_str_split}
use Rattle.command_line.proofs.values.names_of.Goals as goal

pub returns : goal.returns
returns c =
    let parts = YieldsList-from_str_split 44 c.args.text.now (lit< tt) c.split-part-items.ensures.text c.split-part-items.ensures.has_more c.split-part-items.ensures.pattern in
    c.loop-part.invariant
    ∙ (YieldsList-end (YieldsList-at c.into_iter-part-iterator.ensures.into_iter_gives parts) c.loop-part.yielded _ c.loop-part.yielded_by _ _ c.in-None.is c.next.ensures.steps).0

pub loop-part-preserved : goal.loop-part-preserved
loop-part-preserved c =
    ap (map (λ name. name.items)) c.in_ok-push.ensures.items
    ∙ map-append (λ name. name.items) c.loop-part.names.items (c.in_ok-from_slice.field-0 ∷ [])
    ∙ ap₂ (λ front part. front ++ part ∷ []) c.loop-part.invariant (c.in_ok-from_slice.ensures.items ∙ c.as_bytes.ensures.value)
    ∙ sym (map-append (λ part. part.now) c.loop-part.yielded (c.in-Some.part ∷ []))
