use Rattle.std.proofs.Common.{List, ℕ, ◌∙◌, sym, subst, arith}
use Rattle.deb_verdict.proofs.Inserted.{Inserted, inserted_none, inserted_more, inserted_all}
use Rattle.deb_verdict.proofs.first_set.list_set.Goals as goal

pub loop-var-init : goal.loop-var-init
loop-var-init c =
    let At : List ℕ → Type 0 = λ list. Inserted c.args.forced.now c.args.candidates.now c.args.vars.now 0 list in
    subst At (sym c.in_ok-places.ensures.items) (inserted_none c.args.forced.now c.args.candidates.now c.args.vars.now)

pub loop-var-preserved : goal.loop-var-preserved
loop-var-preserved c =
    rw c.in_ok-push.ensures.items
    (inserted_more c.args.forced.now c.args.candidates.now c.args.vars.now c.loop-var.var-index c.loop-var.places.items c.loop-var-test.true c.loop-var.invariant)

pub returns-clause-placed : goal.returns-clause-placed
returns-clause-placed c = λ q.
    c.sort_once.ensures.same q
    ∙ inserted_all c.args.forced.now c.args.candidates.now c.args.vars.now c.loop-var.var-index c.loop-var.places.items (omega (arith, c.loop-var-test.false)) c.requires c.loop-var.invariant q
