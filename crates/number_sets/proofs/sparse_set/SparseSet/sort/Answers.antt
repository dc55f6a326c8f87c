use Rattle.std.proofs.Common.{◌∙◌, sym, ap, eqb}
use Rattle.std.proofs.lemmas.List.Sorted.{list_any-IsPermutation}
use Rattle.number_sets.specs.Sets.{members_of}
use Rattle.number_sets.proofs.SparseSetLemmas.{sorted_rises, sorted_within}
use Rattle.number_sets.proofs.sparse_set.SparseSet.sort.Goals as goal

pub write_positions-requires-clause-rising : goal.write_positions-requires-clause-rising
write_positions-requires-clause-rising c =
    rw c.deref.ensures.value
    (sorted_rises c.self.inside.numbers.items c.self.inside.positions.items c.sort_unstable.new.self.items c.self.invariant c.sort_unstable.ensures.permutation c.sort_unstable.ensures.sorted)

pub write_positions-requires-clause-within : goal.write_positions-requires-clause-within
write_positions-requires-clause-within c =
    rw (c.deref.ensures.value, c.deref_mut.ensures.value)
    (sorted_within c.self.inside.numbers.items c.self.inside.positions.items c.sort_unstable.new.self.items c.self.invariant c.sort_unstable.ensures.permutation)

pub returns-clause-same : goal.returns-clause-same
returns-clause-same c q =
    sym (list_any-IsPermutation (λ member. eqb member q) c.self.inside.numbers.items c.sort_unstable.new.self.items c.sort_unstable.ensures.permutation)
    ∙ ap (λ places. members_of places q) c.self.view_is
