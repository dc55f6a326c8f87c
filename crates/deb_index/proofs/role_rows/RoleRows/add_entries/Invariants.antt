use Rattle.std.proofs.Common.{◌≡◌, ◌++◌, map, take}
use Rattle.deb_index.specs.Packages.{aparts, package_view}
use Rattle.deb_index.specs.Rows.{hit_row}
use Rattle.deb_index.proofs.role_rows.RoleRows.add_entries.Given as goal

abbrev pub invariant-loop-number : goal.invariant-loop-number
invariant-loop-number l =
    (l.self.index ≡ l.initial.self.index) × (l.self.role ≡ l.initial.self.role) × (l.self.rows ≡ l.initial.self.rows ++ map (hit_row l.initial.self.index) (take l.number (aparts (package_view l.asking))))
