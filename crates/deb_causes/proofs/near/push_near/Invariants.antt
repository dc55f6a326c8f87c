use Rattle.std.proofs.Common.{◌≡◌, ◌++◌, map, take}
use Rattle.deb_index.specs.Meets.{provided_at}
use Rattle.deb_causes.proofs.near.push_near.Given as goal

abbrev pub invariant-loop-pair : goal.invariant-loop-pair
invariant-loop-pair l = l.places.items ≡ l.initial.places.items ++ map (λ pair. pair.0) (take l.pair-index (provided_at l.index l.name))
