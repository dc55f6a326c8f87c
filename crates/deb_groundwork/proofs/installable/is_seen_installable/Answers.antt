use Rattle.deb_groundwork.proofs.InstallableLemmas.{healthy_from_all}
use Rattle.deb_groundwork.proofs.installable.is_seen_installable.Goals as goal

pub is_seen_to_admit-requires-clause-base : goal.is_seen_to_admit-requires-clause-base
is_seen_to_admit-requires-clause-base c = c.args.groundwork.now.stands

pub returns : goal.returns
returns c = λ seen.
    let admits = c.is_seen_to_admit.ensures seen in
    (admits.0, (healthy_from_all c.args.groundwork.now.index.now admits.0 admits.2, admits.1))
