use Rattle.deb_groundwork.specs.Parts.{positions_in}
use Rattle.deb_groundwork.proofs.Derived.{IsDerived}
use Rattle.deb_groundwork.proofs.derivation.is_refutation.Given as goal

abbrev pub invariant-loop-number : goal.invariant-loop-number
invariant-loop-number l = IsDerived l.part.index.now l.p (positions_in l.part) l.positions.items l.forced
