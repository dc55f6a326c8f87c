use Rattle.std.proofs.Common.{◌≡◌, length, sym, arith}
use Rattle.std.proofs.lemmas.Bool.{eqb-true}
use Rattle.sat_solve.proofs.AnalysisLemmas.{taken_first}
use Rattle.sat_solve.proofs.analyze.Analysis.kept.Goals as goal

pub returns-then-is_empty : goal.returns-then-is_empty
returns-then-is_empty c =
    let none : length c.args.self.now.clause.items ≡ 0 = omega (arith, eqb-true _ 0 (sym c.if-is_empty.ensures), c.args.self.now.clause.ok) in
    taken_first c.args.trail.now.steps.items c.args.self.now.seen.items c.args.self.now.clause.items c.args.self.now.target c.args.place c.level_start.result none (c.level_start.ensures c.args.self.now.target)
