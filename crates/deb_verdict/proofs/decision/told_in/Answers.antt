use Rattle.number_sets.specs.Sets.{members_of}
use Rattle.deb_health.specs.Verdicts.{IsFirstInstallation}
use Rattle.deb_verdict.proofs.decision.told_in.Goals as goal

pub returns-clause-told : goal.returns-clause-told
returns-clause-told c =
    let first : IsFirstInstallation c.args.groundwork.now.index.now c.args.p c.in-Some.places.items = rw c.in-Some.is at c.in_ok-places.ensures.first in
    (c.if-wanted.false, (members_of c.in-Some.places.items, first.1.0))
