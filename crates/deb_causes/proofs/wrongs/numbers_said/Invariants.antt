use Rattle.std.proofs.Common.{◌≡◌, List, ℕ, Some, map, take}
use Rattle.deb_health.specs.Causes.{cause_in}
use Rattle.deb_causes.specs.Causes.{says}
use Rattle.deb_causes.specs.Numbering.{Grows, IsFront, texts_of}
use Rattle.deb_causes.specs.Wrongs.{number_said}
use Rattle.deb_causes.proofs.wrongs.numbers_said.Given as goal

abbrev pub invariant-loop-constraint : goal.invariant-loop-constraint
invariant-loop-constraint l =
    record {
      grown : Grows (texts_of l.initial.said) (texts_of l.said) (map (says l.index) (cause_in l.index (take l.constraint-index l.core)));
      numbers : (texts : List (List ℕ)) → IsFront (texts_of l.said) texts → map Some l.numbers.items ≡ map (number_said l.index texts) (cause_in l.index (take l.constraint-index l.core));
    }
