use Rattle.std.proofs.Common.{◌<◌, ◌-◌, drop, get_or, sym, subst}
use Rattle.std.proofs.lemmas.List.Elements.{All-take, All-drop}
use Rattle.sat_solve.specs.declared.clause.Lit.{Lit}
use Rattle.sat_solve.specs.declared.clause.Span.{Span}
use Rattle.sat_solve.specs.Clauses.{no_span}
use Rattle.sat_solve.specs.Reasons.{IsReasonFor}
use Rattle.sat_solve.proofs.SolverLemmas.{clause_gives, with_arena, grown_solver, learnt_gives, learnt_at, goes_on_forced, goes_on_conflict}
use Rattle.sat_solve.proofs.solver.Solver.examine.Goals as goal

pub force-requires-clause-gives : goal.force-requires-clause-gives
force-requires-clause-gives c = clause_gives c.args.problem.now c.args.self.now c.args.clause c.requires.solver c.if-clause-problem.true (sym c.if-is_some.ensures) c.if-not-problem-span.false

pub force-requires-clause-in_range : goal.force-requires-clause-in_range
force-requires-clause-in_range c =
    let Below : Lit → Type 0 = λ literal. literal.var < c.args.problem.now.vars in
    let span : Span = get_or c.args.problem.now.spans.now c.args.clause no_span in
    All-take Below (span.end - span.start) (drop span.start c.args.problem.now.literals.now) (All-drop Below span.start c.args.problem.now.literals.now c.args.problem.now.clauses.in_range)

pub remainder-requires-clause-in_range : goal.remainder-requires-clause-in_range
remainder-requires-clause-in_range c =
    let learnt = learnt_at c.args.problem.now c.args.self.now.used.items c.args.self.now.learnt.items c.deref.result.now _ c.in-Some.learnt.now c.requires.solver.learnt c.deref.ensures.value c.in-Some.ensures.lookup.0 c.in-Some.ensures.lookup.1 in
    rw (c.deref-2.ensures.value, c.requires.solver.vars) learnt.0

pub returns-in_default-left : goal.returns-in_default-left
returns-in_default-left c =
    let learnt = learnt_at c.args.problem.now c.args.self.now.used.items c.args.self.now.learnt.items c.deref.result.now _ c.in-Some.learnt.now c.requires.solver.learnt c.deref.ensures.value c.in-Some.ensures.lookup.0 c.in-Some.ensures.lookup.1 in
    let for = subst (λ clause. IsReasonFor clause c.args.self.now.arena.items c.reason_of.new.arena.items c.in_ok-reason.reason) c.deref-3.ensures.value c.in_ok-reason.ensures in
    let went = goes_on_conflict c.args.problem.now (with_arena c.args.self.now c.reason_of.new.arena) c.in_ok-reason.reason c.in-Some.learnt.now.items
    (grown_solver c.args.problem.now c.args.self.now c.reason_of.new.arena c.in-Some.learnt.now.items c.in_ok-reason.reason c.requires.solver for)
    (learnt_gives c.args.problem.now c.args.self.now c.reason_of.new.arena c.in-Some.learnt.now.items c.in_ok-reason.reason c.requires.solver for learnt.1)
    (rw (c.in_default-left.is, c.deref-2.ensures.value) at c.in-Some-remainder.ensures) in
    record { solver = went.solver; rises = went.rises; conflict = went.conflict }

pub returns : goal.returns
returns c =
    let learnt = learnt_at c.args.problem.now c.args.self.now.used.items c.args.self.now.learnt.items c.deref.result.now _ c.in-Some.learnt.now c.requires.solver.learnt c.deref.ensures.value c.in-Some.ensures.lookup.0 c.in-Some.ensures.lookup.1 in
    let for = subst (λ clause. IsReasonFor clause c.args.self.now.arena.items c.reason_of.new.arena.items c.in_ok-reason.reason) c.deref-3.ensures.value c.in_ok-reason.ensures in
    let went = goes_on_forced c.args.problem.now (with_arena c.args.self.now c.reason_of.new.arena) c.in_ok-reason.reason c.in-Some.learnt.now.items
    (grown_solver c.args.problem.now c.args.self.now c.reason_of.new.arena c.in-Some.learnt.now.items c.in_ok-reason.reason c.requires.solver for)
    (learnt_gives c.args.problem.now c.args.self.now c.reason_of.new.arena c.in-Some.learnt.now.items c.in_ok-reason.reason c.requires.solver for learnt.1)
    c.push.new.self c.in-Some-left.literal (rw (c.in-Some-left.is, c.deref-2.ensures.value) at c.in-Some-remainder.ensures) c.in_ok-push.ensures.linked c.in_ok-push.ensures.vars c.in_ok-push.ensures.pushed in
    record { solver = went.solver; rises = went.rises; conflict = went.conflict }
