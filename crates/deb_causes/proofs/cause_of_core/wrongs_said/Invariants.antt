use Rattle.std.proofs.Common.{◌≡◌, map, take}
use Rattle.deb_health.specs.Causes.{cause_in}
use Rattle.deb_index.specs.Packages.{first_of_each}
use Rattle.deb_causes.specs.Causes.{says, says_same}
use Rattle.deb_causes.specs.Numbering.{texts_of}
use Rattle.deb_causes.proofs.cause_of_core.wrongs_said.Given as goal

abbrev pub invariant-loop-constraint : goal.invariant-loop-constraint
invariant-loop-constraint l =
    record {
      said : texts_of l.said ≡ map (says l.index) l.wrongs.items;
      wrongs : l.wrongs.items ≡ first_of_each (says_same l.index) (cause_in l.index (take l.constraint-index l.core));
    }
