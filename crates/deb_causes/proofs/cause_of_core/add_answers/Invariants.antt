use Rattle.std.proofs.Common.{◌≡◌, ◌||◌, ℕ, take}
use Rattle.std.specs.List.{list_any}
use Rattle.number_sets.specs.Sets.{members_of}
use Rattle.deb_causes.specs.Causes.{is_answer_to}
use Rattle.deb_causes.proofs.cause_of_core.add_answers.Given as goal

abbrev pub invariant-loop-constraint : goal.invariant-loop-constraint
invariant-loop-constraint l = (q : ℕ) → members_of l.answering q ≡ (members_of l.initial.answering q || list_any (is_answer_to l.index q) (take l.constraint-index l.core))
