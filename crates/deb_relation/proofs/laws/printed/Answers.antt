use Rattle.deb_relation.proofs.PrintedReads.{atoms-printed, groups-printed}
use Rattle.deb_relation.proofs.laws.printed.Goals as goal

pub returns : goal.returns
returns c = record { groups = groups-printed; list = atoms-printed }
