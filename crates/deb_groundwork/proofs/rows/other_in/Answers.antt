use Rattle.std.proofs.Common.{◌≡◌, true}
use Rattle.deb_groundwork.proofs.WitnessLemmas.{of_members}
use Rattle.deb_groundwork.proofs.rows.other_in.Goals as goal

pub returns : goal.returns
returns g c =
    of_members (λ q. g.P.Places.members c.args.set.now q ≡ true → q ≡ c.args.place) c.args.row.now c.loop-other.other-index c.loop-other-test.false c.loop-other.invariant
