use Rattle.number_sets.specs.Sets.{NumberSet}
use Rattle.deb_index.specs.declared.constraint.Constraint.TheVariants.{Need}
use Rattle.deb_index.specs.Constraints.{Holds}
use Rattle.deb_encode.specs.declared.play.Play.{Play}
use Rattle.deb_encode.specs.Encoders.{set_of}
use Rattle.deb_encode.proofs.Each.{all_none, all_more, all_whole}
use Rattle.deb_verdict.specs.declared.gather.UnmetNeed.{UnmetNeed}
use Rattle.deb_verdict.proofs.describe.add_needs.Goals as goal

abbrev Says : UnmetNeed → Play → NumberSet → Type 0
Says need play vars = Holds play.index.now (set_of play vars) (Need need.place need.number)

pub loop-need-init : goal.loop-need-init
loop-need-init c = all_none Says c.args.encoder.now

pub loop-need-preserved : goal.loop-need-preserved
loop-need-preserved c =
    all_more Says c.args.unmet.now c.loop-need.need-index _ c.args.encoder.now c.loop-need.encoder c.add_need.new.self c.loop-need-test.true c.loop-need.invariant c.in_ok-add_need.ensures

pub returns : goal.returns
returns c = all_whole Says c.args.unmet.now c.loop-need.need-index c.args.encoder.now c.loop-need.encoder c.loop-need-test.false c.loop-need.invariant
