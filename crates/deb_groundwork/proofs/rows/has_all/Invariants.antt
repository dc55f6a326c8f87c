use Rattle.std.proofs.Common.{◌≡◌, true, take}
use Rattle.std.specs.List.{list_all}
use Rattle.number_sets.specs.Sets.{members_of}
use Rattle.deb_groundwork.proofs.rows.has_all.Given as goal

abbrev pub invariant-loop-place : goal.invariant-loop-place
invariant-loop-place l = list_all (members_of l.set) (take l.place-index l.row) ≡ true
