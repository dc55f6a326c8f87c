use Rattle.std.proofs.Common.{◌≡◌, ℕ, List, Option, length, All}
use Rattle.deb_index.specs.declared.meets.Role.{Role}
use Rattle.deb_index.specs.Rows.{IsMet}
use Rattle.deb_index.specs.Packages.{IndexView}
use Rattle.deb_index.proofs.memo.Memo.new.Given as goal

abbrev pub invariant-loop : goal.invariant-loop
invariant-loop l = (length l.slots.items ≡ l.counter) × ((index : IndexView) (role : Role) (rows : List (Option (List ℕ))) → All (IsMet index role rows) l.slots.items)
