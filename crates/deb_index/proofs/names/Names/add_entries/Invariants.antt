use Rattle.std.proofs.Common.{ℕ, List, ◌++◌, map, take}
use Rattle.deb_relation.specs.Relationship.{atom_view}
use Rattle.deb_index.specs.Packages.{PackageView}
use Rattle.deb_index.specs.Names.{IsNaming, provided_entries}
use Rattle.deb_index.proofs.names.Names.add_entries.Given as goal

abbrev pub invariant-loop-number : goal.invariant-loop-number
invariant-loop-number l = (packages : List PackageView) (before : List (List ℕ × (ℕ × ℕ))) → IsNaming packages before l.initial.self
    → IsNaming packages (before ++ provided_entries l.arch l.place (map atom_view (take l.number l.entries))) l.self
