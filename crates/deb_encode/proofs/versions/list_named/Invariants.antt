use Rattle.deb_encode.specs.Encoders.{all_places}
use Rattle.deb_encode.specs.Exclusions.{is_of_name}
use Rattle.deb_encode.proofs.Filtered.{ListsPassing}
use Rattle.deb_encode.proofs.versions.list_named.Given as goal

abbrev pub invariant-loop-number : goal.invariant-loop-number
invariant-loop-number l = ListsPassing (is_of_name l.play.index.now l.name) (all_places l.play) l.number l.found.items
