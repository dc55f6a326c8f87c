use Rattle.std.proofs.Common.{◌≡◌, ℕ, ◌<◌, ◌-◌, ◌^◌, true}
use Rattle.number_sets.specs.Sets.{members_of}
use Rattle.core_extract.specs.Reduction.{left, listed}
use Rattle.sat_solve_tests.proofs.first_failing.counting.CountingQuestion.refute.Given as goal

abbrev pub invariant-loop-number : goal.invariant-loop-number
invariant-loop-number l = (k : ℕ) → k < l.at → listed l.self.needed.now k ≡ true → left (members_of l.kept) l.rest k ≡ true

abbrev pub decreases-loop-number : goal.decreases-loop-number
decreases-loop-number l = 2 ^ 32 - l.at
