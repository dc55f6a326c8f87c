use Rattle.std.proofs.Common.{subst, sym}
use Rattle.deb_health.specs.declared.told.Wanted.{Wanted}
use Rattle.deb_health.specs.Verdicts.{IsTold, IsVerdict, SpeaksOf, told_view}
use Rattle.deb_verdict.proofs.decision.verdict_in.Goals as goal

pub returns-clause-verdict : goal.returns-clause-verdict
returns-clause-verdict c =
    let index = c.args.groundwork.now.index.now in
    let told = told_view c.in_ok-told.told in
    let is : IsVerdict index c.args.p told = subst (λ (wanted : Wanted). IsTold wanted index c.args.p told) c.verdict.ensures c.in_ok-told.ensures.told in
    subst (IsVerdict index c.args.p) (sym (c.verdict_of.ensures index c.args.p is)) is

pub returns-clause-within : goal.returns-clause-within
returns-clause-within c =
    let index = c.args.groundwork.now.index.now in
    let told = told_view c.in_ok-told.told in
    let is : IsVerdict index c.args.p told = subst (λ (wanted : Wanted). IsTold wanted index c.args.p told) c.verdict.ensures c.in_ok-told.ensures.told in
    subst (SpeaksOf index) (sym (c.verdict_of.ensures index c.args.p is)) c.in_ok-told.ensures.within
