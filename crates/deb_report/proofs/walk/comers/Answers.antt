use Rattle.std.proofs.Common.{◌||◌, Ok, ap, nat_eq, refl, ◌∙◌}
use Rattle.std.specs.declared.alloc.AllocError.{AllocError}
use Rattle.std.specs.Set.{is_member}
use Rattle.std.proofs.lemmas.Iterator.{YieldsList-from_slice}
use Rattle.std.proofs.lemmas.Iterator.Adapters.{fact_from_extend}
use Rattle.deb_report.specs.Walk.{places_in}
use Rattle.deb_report.proofs.WalkLemmas.{coming_row}
use Rattle.deb_report.proofs.walk.comers.Goals as goal

pub loop-constraint-preserved : goal.loop-constraint-preserved
loop-constraint-preserved c = λ q.
    coming_row c.args.index.now c.args.core.now c.loop-constraint.constraint-index c.args.place _ _ _ _ c.in_ok-brought.field-0.now q
    c.loop-constraint-test.true refl c.in_ok-brought.ensures (c.loop-constraint.invariant q)
    (fact_from_extend {E = AllocError} (λ member. member.now) (Ok c.in_ok-extend.field-0) c.in_ok-extend.ensures.ran (λ it made. YieldsList-from_slice _ made.0)
    (λ members are added. added.0 q ∙ ap (λ row. places_in c.loop-constraint.coming q || is_member nat_eq row q) are))
