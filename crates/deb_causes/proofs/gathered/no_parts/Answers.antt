use Rattle.std.proofs.Common.{◌≡◌, ◌∙◌, ◌∷◌, [], ◌++◌, Bor, List, ap, ap₂, arith, map, sym}
use Rattle.std.proofs.lemmas.List.{map-append}
use Rattle.deb_index.specs.declared.constraint.Constraint.{Constraint}
use Rattle.deb_index.specs.Constraints.{below}
use Rattle.number_sets.proofs.ListLemmas.{range_more}
use Rattle.deb_causes.specs.declared.gathered.Part.{Part}
use Rattle.deb_causes.specs.Gathering.{part_of, part_view}
use Rattle.deb_causes.proofs.gathered.no_parts.Goals as goal

pub loop-number-preserved : goal.loop-number-preserved
loop-number-preserved c =
    let one : Part = record { cores = c.new.result; shares = c.new-in-loop-number.result } in
    let empty : part_view one ≡ part_of [] c.loop-number._number =
    ap₂ (λ cores shares. record { cores = cores; shares = shares }) (ap (map (λ (core : Bor (List Constraint)). core.now)) c.new.ensures.items) c.new-in-loop-number.ensures.items in
    ap (map part_view) c.in_ok-push.ensures.items
    ∙ map-append part_view c.loop-number.parts.items (one ∷ [])
    ∙ ap₂ (λ front last. front ++ last ∷ []) c.loop-number.invariant empty
    ∙ sym (ap (map (part_of [])) (range_more 0 c.loop-number._number c.loop-number._number (omega arith)) ∙ map-append (part_of []) (below c.loop-number._number) (c.loop-number._number ∷ []))
