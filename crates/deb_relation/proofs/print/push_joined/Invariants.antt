use Rattle.std.proofs.Common.{◌≡◌, ◌++◌, take}
use Rattle.std.specs.List.{flat_map}
use Rattle.deb_relation.proofs.print.push_joined.Given as goal

abbrev pub invariant-loop-other : goal.invariant-loop-other
invariant-loop-other g l = l.out.items ≡ l.initial.out.items ++ flat_map (λ other. l.separator ++ g.P.Print.text l.printer other) (take l.other-index l.others)
