use Rattle.std.proofs.Common.{take}
use Rattle.number_sets.specs.Sets.{members_of}
use Rattle.deb_encode.specs.Encoders.{all_places}
use Rattle.deb_encode.specs.Exclusions.{AreNamesOf}
use Rattle.deb_encode.proofs.versions.list_names.Given as goal

abbrev pub invariant-loop-number : goal.invariant-loop-number
invariant-loop-number l = AreNamesOf l.play.index.now (members_of (take l.number (all_places l.play))) l.found
