use Rattle.std.proofs.Common.{◌≡◌, ◌<◌, ℕ, true}
use Rattle.std.specs.List.{list_any}
use Rattle.deb_index.specs.Packages.{need_at}
use Rattle.deb_index.specs.Meets.{group_satisfiers}
use Rattle.number_sets.specs.Sets.{members_of}
use Rattle.deb_groundwork.proofs.answering.are_answered.Given as goal

abbrev pub invariant-loop-number : goal.invariant-loop-number
invariant-loop-number l = (j : ℕ) → j < l.number → list_any (members_of l.set) (group_satisfiers l.index (need_at l.index l.place j)) ≡ true
