use Rattle.std.proofs.Common.{ℕ, List, ◌++◌, map, take}
use Rattle.deb_relation.specs.Relationship.{AtomText}
use Rattle.deb_causes.specs.Near.{IsTold}
use Rattle.deb_causes.proofs.similar.Told.push_all.Given as goal

abbrev pub invariant-loop-name : goal.invariant-loop-name
invariant-loop-name l = (own : List AtomText) (seen : List (List ℕ)) → IsTold own seen l.initial.self → IsTold own (seen ++ map (λ one. one.items) (take l.name-index l.names)) l.self
