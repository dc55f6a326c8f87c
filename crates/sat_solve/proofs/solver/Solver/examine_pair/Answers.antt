use Rattle.std.proofs.Common.{length, get_or, sym}
use Rattle.std.proofs.lemmas.Bool.{ne_eqb}
use Rattle.sat_solve.specs.Clauses.{no_span, out_of}
use Rattle.sat_solve.proofs.SpanLemmas.{pair_listed}
use Rattle.sat_solve.proofs.SolverLemmas.{pair_gives}
use Rattle.sat_solve.proofs.solver.Solver.examine_pair.Goals as goal

pub force-requires-clause-gives : goal.force-requires-clause-gives
force-requires-clause-gives c = rw (c.out.ensures, c.out-in-Some.ensures)
    (pair_gives c.args.problem.now c.args.self.now (get_or c.args.problem.now.spans.now c.args.span no_span).group c.in-Some.owner (get_or c.args.problem.now.literals.now c.args.place (out_of 0)).var c.requires.solver c.if-not-problem-span.false
    (pair_listed c.args.problem.now.vars (length c.args.problem.now.keep.now) c.args.problem.now.literals.now c.args.problem.now.spans.now c.args.problem.now.clauses c.args.span no_span c.if-span-problem.false c.args.place (out_of 0) c.in-Some.owner c.in-Some.is c.if-place-span.false c.if-span-place.false
    (ne_eqb (get_or c.args.problem.now.literals.now c.args.place (out_of 0)).var c.in-Some.owner (λ same. c.if-owner-other.true (sym same)))))
