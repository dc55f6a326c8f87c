use Rattle.std.proofs.Common.{◌∙◌, ◌||◌, ap, sym, get_or}
use Rattle.std.specs.List.{list_any}
use Rattle.std.proofs.lemmas.List.Folds.{list_any_at, list_any_more}
use Rattle.number_sets.proofs.ListMembers.{take_whole}
use Rattle.deb_groundwork.proofs.rows.has_any.Goals as goal

pub returns-then-has : goal.returns-then-has
returns-then-has g c = sym (list_any_at (g.P.Places.members c.args.set.now) c.args.row.now c.loop-place.place-index 0 c.loop-place-test.true (sym c.has.ensures ∙ c.if-has.true))

pub loop-place-preserved : goal.loop-place-preserved
loop-place-preserved g c =
    let Has = g.P.Places.members c.args.set.now in
    list_any_more Has c.args.row.now c.loop-place.place-index 0 c.loop-place-test.true
    ∙ (ap (λ b. b || Has (get_or c.args.row.now c.loop-place.place-index 0)) c.loop-place.invariant ∙ (sym c.has.ensures ∙ c.if-has.false))

pub returns : goal.returns
returns g c = sym c.loop-place.invariant ∙ ap (list_any (g.P.Places.members c.args.set.now)) (take_whole c.args.row.now c.loop-place.place-index c.loop-place-test.false)
