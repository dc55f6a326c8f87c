use Rattle.std.proofs.Common.{rules, ◌≡◌, ◌<◌, ◌==◌, [], arith, false, get_or, length, sym}
use Rattle.deb_causes.specs.declared.gathered.NumberedCore.{NumberedCore}
use Rattle.deb_causes.specs.Gathering.{has_number}
use Rattle.deb_causes.specs.Numbering.{core_view}
use Rattle.deb_causes.proofs.GatheringLemmas.{all-stops}
use Rattle.deb_causes.proofs.gathered.have_number.Goals as goal

abbrev none : NumberedCore
none = record { number = 0; core = record { ref_ptr = (0, 0); now = [] } }

pub returns-then-one-number : goal.returns-then-one-number
returns-then-one-number c =
    let inside : c.loop-one.one-index < length c.args.cores.now = omega arith in
    let fails : ((get_or c.args.cores.now c.loop-one.one-index none).number == c.args.number) ≡ false = search rules in
    sym (all-stops (has_number c.args.number) core_view c.args.cores.now c.loop-one.one-index none inside fails)
