use Rattle.std.proofs.Common.{ℕ, subst}
use Rattle.sat_solve.specs.Rotation.{BreaksAlone, MarksNeeded}
use Rattle.sat_solve.proofs.RotationLemmas.{marked_more, marked_or}
use Rattle.sat_solve.proofs.rotation.Rotation.take.Goals as goal

pub returns-clause-needed : goal.returns-clause-needed
returns-clause-needed c =
    let turned = c.turn-else-is_marked.new.self in
    let needed : MarksNeeded c.args.problem.now turned.marks.items = rw (c.turn-else-is_marked.ensures.marks) c.requires.needed in
    rw (c.push_turns.ensures.marks) (marked_more c.args.problem.now turned.inside.items turned.marks.items c.mark.new.marks.items c.in-Some-broken_by.group
    (subst (λ (group : ℕ). BreaksAlone c.args.problem.now turned.inside.items group) (c.turn-else-is_marked.ensures.group c.if-not-turn.false) c.turn-else-is_marked.ensures.after)
    needed (marked_or turned.marks.items c.mark.new.marks.items c.in-Some-broken_by.group c.mark.ensures))
