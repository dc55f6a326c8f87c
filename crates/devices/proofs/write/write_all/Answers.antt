use Rattle.std.proofs.Common.{rules, ◌++◌, ◌∙◌, ap, sym, take, append_assoc}
use Rattle.devices.proofs.WriteLemmas.{appends_more, in_parts}
use Rattle.devices.proofs.write.write_all.Goals as goal

pub loop-rest-preserved : goal.loop-rest-preserved
loop-rest-preserved g c =
    let front = c.loop-rest.invariant.0 in
    let part = take c.in-Ok.count c.loop-rest.rest.now in (
      front ++ part,
      c.loop-rest.invariant.1 ∙ ap (λ rest. front ++ rest) (in_parts _ _) ∙ sym (append_assoc front part _),
      appends_more _ _ _ front part c.loop-rest.invariant.2 c.in-Ok.ensures.bytes,
      search rules,
    )
