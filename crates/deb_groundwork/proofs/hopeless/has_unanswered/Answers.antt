use Rattle.std.proofs.Common.{◌<◌, length, arith}
use Rattle.deb_index.specs.Packages.{needs_at}
use Rattle.number_sets.specs.Sets.{members_of}
use Rattle.deb_groundwork.proofs.HopelessLemmas.{hopeless_by_need}
use Rattle.deb_groundwork.proofs.hopeless.has_unanswered.Goals as goal

pub returns-then-is_unanswered : goal.returns-then-is_unanswered
returns-then-is_unanswered c = λ _.
    let inside : c.loop-number.number < length (needs_at c.args.index.now c.args.place) = omega (arith, c.need_count-number-end.ensures) in
    hopeless_by_need c.args.index.now (members_of c.args.hopeless.now) c.args.place c.loop-number.number c.requires.place inside c.requires.hopeless
    (c.is_unanswered.ensures c.if-is_unanswered.true)
