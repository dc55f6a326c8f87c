use Rattle.std.proofs.Common.{◌-◌, ◌*◌, ◌+◌, ◌^◌, ◌≤◌, min}
use Rattle.std.specs.List.Sorted.{IsStrictlyIncreasing}
use Rattle.number_sets.specs.Sets.{members_of}
use Rattle.core_extract.specs.Reduction.{AreSame}
use Rattle.core_extract.proofs.Cores.{IsReduced}
use Rattle.core_extract.proofs.reduction.first_failing.Given as goal

abbrev pub invariant-loop-first : goal.invariant-loop-first
invariant-loop-first g l =
    IsReduced (g.Q.Question.is_failing l.initial.question) (g.Q.Question.used l.question) (members_of l.kept.items) l.at
    × IsStrictlyIncreasing l.kept.items
    × AreSame (g.Q.Question.is_failing l.initial.question) (g.Q.Question.is_failing l.question)
    × g.Q.Question.keeps l.initial.question l.question
    × (l.run ≤ l.at)

-- a turn settles a number, or ends a run of two and more
abbrev pub decreases-loop-first : goal.decreases-loop-first
decreases-loop-first g l = 3 * (2 ^ 32 - l.at) + min l.run 2
