use Rattle.std.proofs.Common.{◌≡◌, ◌∙◌, ◌<◌, true, ap}
use Rattle.number_sets.specs.Sets.{members_of}
use Rattle.deb_groundwork.proofs.WitnessLemmas.{of_members}
use Rattle.deb_groundwork.proofs.healthy_set.has_no_earlier.Goals as goal

pub returns : goal.returns
returns g c = λ _ is_in q less version.
    of_members (λ q. q < c.args.place → g.P.Places.members c.args.set.now q ≡ true → ⊥) c.versions_of-row.result.now c.loop-other.other-index c.loop-other-test.false
    c.loop-other.invariant q (ap (λ list. members_of list q) c.versions_of-row.ensures ∙ version) less
