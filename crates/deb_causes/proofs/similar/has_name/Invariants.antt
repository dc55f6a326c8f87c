use Rattle.std.proofs.Common.{◌≡◌, false, map, take}
use Rattle.deb_causes.specs.Near.{has_text}
use Rattle.deb_causes.proofs.similar.has_name.Given as goal

abbrev pub invariant-loop-one : goal.invariant-loop-one
invariant-loop-one l = has_text (map (λ one. one.items) (take l.one-index l.names)) l.name ≡ false
