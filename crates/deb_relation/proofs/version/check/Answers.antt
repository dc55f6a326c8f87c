use Rattle.std.proofs.Common.{◌+◌, ◌∙◌, sym}
use Rattle.std.proofs.lemmas.List.{take_rest}
use Rattle.deb_relation.proofs.VersionParts.{epoch-bad, epoch-none, epoch-some}
use Rattle.deb_relation.proofs.version.check.Goals as goal

pub returns-in-None-clause-ok : goal.returns-in-None-clause-ok
returns-in-None-clause-ok c = rw (epoch-none c.args.text.now c.in-None.ensures.place) c.check_rest.ensures.ok

pub returns-in-None-clause-err : goal.returns-in-None-clause-err
returns-in-None-clause-err c = rw (epoch-none c.args.text.now c.in-None.ensures.place) c.check_rest.ensures.err

pub returns-then-is_epoch-clause-ok : goal.returns-then-is_epoch-clause-ok
returns-then-is_epoch-clause-ok c =
    let text = c.args.text.now in
    let n = c.in-Some.colon + 1 in
    rw (epoch-some text c.in-Some.colon c.in-Some.ensures.place (sym c.is_epoch.ensures ∙ c.if-is_epoch.true)) (rw (take_rest text n) at c.check_rest-then-is_epoch.ensures.ok)

pub returns-then-is_epoch-clause-err : goal.returns-then-is_epoch-clause-err
returns-then-is_epoch-clause-err c =
    let text = c.args.text.now in
    let n = c.in-Some.colon + 1 in
    rw (epoch-some text c.in-Some.colon c.in-Some.ensures.place (sym c.is_epoch.ensures ∙ c.if-is_epoch.true)) (rw (take_rest text n) at c.check_rest-then-is_epoch.ensures.err)

pub returns-else-is_epoch-clause-err : goal.returns-else-is_epoch-clause-err
returns-else-is_epoch-clause-err c = epoch-bad c.args.text.now c.in-Some.colon c.in-Some.ensures.place (sym c.is_epoch.ensures ∙ c.if-is_epoch.false)
