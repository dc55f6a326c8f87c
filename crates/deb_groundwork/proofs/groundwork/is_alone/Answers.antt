use Rattle.std.proofs.Common.{◌≤◌, length, arith}
use Rattle.deb_index.specs.Packages.{aparts_at}
use Rattle.deb_groundwork.proofs.GroundworkLemmas.{stands_alone}
use Rattle.deb_groundwork.proofs.groundwork.is_alone.Goals as goal

pub returns : goal.returns
returns c = λ is_only.
    let past : length (aparts_at c.args.index.now c.args.place) ≤ c.loop-number.number = omega (arith, c.apart_count-number-end.ensures) in
    stands_alone c.args.index.now c.args.place c.loop-number.number c.versions_of.result.now past c.loop-number.invariant c.versions_of.ensures (c.has_only.ensures is_only)
