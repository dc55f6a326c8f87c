use Rattle.std.proofs.Common.{◌≡◌, subst}
use Rattle.std.specs.Borrow.{Bor}
use Rattle.std.proofs.lemmas.Option.{same_Some}
use Rattle.deb_report.specs.declared.newly_broken.Before.{Before}
use Rattle.debcheck.proofs.verdicts.check_and_tell.Goals as goal

pub report_on-told-requires-clause-before : goal.report_on-told-requires-clause-before
report_on-told-requires-clause-before g c κs within =
    λ known is. subst (λ (before : Bor Before). before.now.index.now ≡ c.args.index.now) (same_Some _ known is) c.in_ok-before-in-Some.ensures.index

pub returns-in-None-clause-report : goal.returns-in-None-clause-report
returns-in-None-clause-report g c = rw c.in-None.is c.report_on.ensures.report
