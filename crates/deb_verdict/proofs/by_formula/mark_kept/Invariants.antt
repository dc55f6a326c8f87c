use Rattle.std.proofs.Common.{◌≡◌, map, take}
use Rattle.deb_groundwork.specs.Parts.{positions_in}
use Rattle.deb_verdict.proofs.by_formula.mark_kept.Given as goal

abbrev pub invariant-loop-position : goal.invariant-loop-position
invariant-loop-position l = l.keep.items ≡ map (positions_in l.part) (take l.position-index l.positions)
