use Rattle.deb_verdict.proofs.decision.verdict_by.Goals as goal

pub returns-clause-verdict : goal.returns-clause-verdict
returns-clause-verdict c = rw c.in_ok-groundwork.ensures at c.verdict_in-found.ensures.verdict
