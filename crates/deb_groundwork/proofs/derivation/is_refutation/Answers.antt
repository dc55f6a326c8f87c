use Rattle.std.proofs.Common.{◌∙◌, sym, arith}
use Rattle.number_sets.proofs.Placing.{single_row}
use Rattle.deb_groundwork.specs.Parts.{positions_in}
use Rattle.deb_groundwork.proofs.Derived.{derived_more, derived_refutes, no_row}
use Rattle.deb_groundwork.proofs.derivation.is_refutation.Goals as goal

pub returns-in-empty : goal.returns-in-empty
returns-in-empty c = λ is.
    derived_refutes c.args.part.now.index.now c.args.p (positions_in c.args.part.now) c.loop-number.positions.items c.loop-number.forced c.in-Some.found.position c.loop-number.invariant
    (sym c.has.ensures ∙ c.if-not-has.false) c.in-Some.found.row.now c.push.new.self.items c.in-Some.ensures (no_row c.in-Some.found.row.now (omega arith)) c.in-Ok-push.ensures.items

pub loop-number-preserved : goal.loop-number-preserved
loop-number-preserved c =
    derived_more c.args.part.now.index.now c.args.p (positions_in c.args.part.now) c.loop-number.positions.items c.loop-number.forced c.in-Some.found.position c.loop-number.invariant
    (sym c.has.ensures ∙ c.if-not-has.false) _ c.in-Some.found.row.now c.push.new.self.items c.insert-in-loop-number.new.self c.in-Some.ensures
    (single_row c.in-Some.found.row.now (omega arith)) c.in-Ok-push.ensures.items c.in-Ok-insert.ensures
