use Rattle.std.proofs.Common.{◌≡◌, ℕ, List, ◌++◌, filter, map, take}
use Rattle.deb_relation.specs.Relationship.{atom_view, is_usable}
use Rattle.deb_causes.specs.Near.{IsFoundIn, stems_in}
use Rattle.deb_causes.proofs.similar.Similar.add_package.Given as goal

abbrev pub invariant-loop-entry : goal.invariant-loop-entry
invariant-loop-entry l = ((seen : List (List ℕ)) → IsFoundIn seen l.initial.self
    → IsFoundIn (seen ++ map (λ entry. entry.name) (filter (λ entry. is_usable l.arch entry.qualifier) (map atom_view (take l.entry-index l.entry-items)))) l.self)
    × (stems_in l.self ≡ stems_in l.initial.self)
