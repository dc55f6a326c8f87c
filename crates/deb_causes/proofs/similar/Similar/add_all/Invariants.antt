use Rattle.std.proofs.Common.{◌≡◌, take}
use Rattle.std.specs.List.{flat_map}
use Rattle.deb_causes.specs.Near.{names_of, IsFoundIn, stems_in}
use Rattle.deb_causes.proofs.similar.Similar.add_all.Given as goal

abbrev pub invariant-loop-place : goal.invariant-loop-place
invariant-loop-place l = IsFoundIn (flat_map (names_of l.index.arch) (take l.place l.index.packages)) l.self × (stems_in l.self ≡ stems_in l.initial.self)
