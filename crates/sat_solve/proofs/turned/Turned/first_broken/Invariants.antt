use Rattle.std.proofs.Common.{◌≡◌, ℕ, true, take}
use Rattle.number_sets.specs.Sets.{members_of}
use Rattle.sat_solve.specs.Rotation.{MeetsBut, turned}
use Rattle.sat_solve.proofs.turned.Turned.first_broken.Given as goal

abbrev pub invariant-loop-number : goal.invariant-loop-number
invariant-loop-number l = (k : ℕ) → members_of (take l.number-index l.numbers) k ≡ true → MeetsBut l.problem (turned l.self.inside.now l.self.var) l.but k
