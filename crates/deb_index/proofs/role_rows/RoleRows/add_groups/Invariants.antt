use Rattle.std.proofs.Common.{◌≡◌, ◌++◌, map, take}
use Rattle.deb_index.specs.Packages.{needs, package_view}
use Rattle.deb_index.specs.Rows.{answer_row}
use Rattle.deb_index.proofs.role_rows.RoleRows.add_groups.Given as goal

abbrev pub invariant-loop-number : goal.invariant-loop-number
invariant-loop-number l =
    (l.self.index ≡ l.initial.self.index) × (l.self.role ≡ l.initial.self.role) × (l.self.rows ≡ l.initial.self.rows ++ map (answer_row l.initial.self.index) (take l.number (needs (package_view l.asking))))
