use Rattle.std.proofs.Common.{◌≡◌, map, take}
use Rattle.deb_causes.specs.Numbering.{core_view}
use Rattle.deb_causes.specs.Wrongs.{AreNumbered}
use Rattle.deb_causes.proofs.gathered.number_cores.Given as goal

abbrev pub invariant-loop-one : goal.invariant-loop-one
invariant-loop-one l =
    record {
      cores : map (λ one. one.core.now) l.numbered.items ≡ map (λ core. core.items) (take l.one-index l.cores);
      numbers : AreNumbered l.index l.initial.wrongs l.wrongs (map core_view l.numbered.items);
    }
