use Rattle.std.proofs.Common.{◌≡◌}
use Rattle.deb_index.specs.declared.meets.Role.TheVariants.{Alternative, Entry}
use Rattle.deb_index.specs.Links.{IsLinked, packages_in}
use Rattle.deb_index.proofs.links.add_rows.Given as goal

abbrev pub invariant-loop-place : goal.invariant-loop-place
invariant-loop-place l = record {
  group_index : l.groups.index ≡ l.fn.lookup;
  group_role : l.groups.role ≡ Alternative;
  entry_index : l.entries.index ≡ l.fn.lookup;
  entry_role : l.entries.role ≡ Entry;
  linked : IsLinked l.fn.lookup (packages_in l.fn.lookup l.fn.from l.place) (record { starts = l.starts; groups = l.groups.rows; entries = l.entries.rows });
}
