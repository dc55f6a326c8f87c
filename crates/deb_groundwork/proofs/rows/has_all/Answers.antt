use Rattle.std.proofs.Common.{◌∙◌, ◌&&◌, ap, sym, get_or}
use Rattle.std.specs.List.{list_all}
use Rattle.std.proofs.lemmas.List.Folds.{list_all_at, list_all_more}
use Rattle.number_sets.specs.Sets.{members_of}
use Rattle.number_sets.proofs.ListMembers.{take_whole}
use Rattle.deb_groundwork.proofs.rows.has_all.Goals as goal

pub returns-then-not-contains : goal.returns-then-not-contains
returns-then-not-contains c = sym (list_all_at (members_of c.args.set.now) c.args.row.now c.loop-place.place-index 0 c.loop-place-test.true (sym c.contains.ensures ∙ c.if-not-contains.true))

pub loop-place-preserved : goal.loop-place-preserved
loop-place-preserved c =
    list_all_more (members_of c.args.set.now) c.args.row.now c.loop-place.place-index 0 c.loop-place-test.true
    ∙ (ap (λ b. b && members_of c.args.set.now (get_or c.args.row.now c.loop-place.place-index 0)) c.loop-place.invariant ∙ (sym c.contains.ensures ∙ c.if-not-contains.false))

pub returns : goal.returns
returns c = sym c.loop-place.invariant ∙ ap (list_all (members_of c.args.set.now)) (take_whole c.args.row.now c.loop-place.place-index c.loop-place-test.false)
