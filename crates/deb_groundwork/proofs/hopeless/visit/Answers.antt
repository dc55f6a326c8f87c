use Rattle.deb_groundwork.proofs.HopelessLemmas.{hopeless_with}
use Rattle.deb_groundwork.proofs.hopeless.visit.Goals as goal

pub returns-in_ok-insert : goal.returns-in_ok-insert
returns-in_ok-insert c =
    hopeless_with c.args.index.now c.args.hopeless.now c.insert.new.self c.args.place c.in_ok-insert.ensures c.requires.hopeless
    (c.has_unanswered.ensures c.if-has_unanswered.true)
