use Rattle.std.proofs.Common.{length, refl, arith}
use Rattle.std.proofs.lemmas.Option.{slice_get_read}
use Rattle.sat_solve.proofs.RotationLemmas.{pushed_here, pushed_on, none_here}
use Rattle.sat_solve.proofs.occurrences.push_number.Goals as goal

pub returns-in_ok-push-clause-on : goal.returns-in_ok-push-clause-on
returns-in_ok-push-clause-on c =
    pushed_on c.args.lists.now.items c.args.key c.args.number c.index_mut.result.now c.push.new.self
    (slice_get_read c.args.lists.now.items (length c.args.lists.now.items) c.args.key c.index_mut.result.now refl (omega (arith, c.if-key-len.true, c.len.ensures, c.args.lists.now.ok)) c.index_mut.ensures.value) c.in_ok-push.ensures.items

pub returns-in_ok-push-clause-here : goal.returns-in_ok-push-clause-here
returns-in_ok-push-clause-here c =
    pushed_here c.args.lists.now.items c.args.key c.args.number c.index_mut.result.now c.push.new.self
    (slice_get_read c.args.lists.now.items (length c.args.lists.now.items) c.args.key c.index_mut.result.now refl (omega (arith, c.if-key-len.true, c.len.ensures, c.args.lists.now.ok)) c.index_mut.ensures.value) c.in_ok-push.ensures.items

pub returns-else-key-len-clause-here : goal.returns-else-key-len-clause-here
returns-else-key-len-clause-here c = none_here c.args.lists.now.items c.args.key c.args.number (omega (arith, c.if-key-len.false, c.len.ensures, c.args.lists.now.ok))
