use Rattle.std.proofs.lemmas.List.Filters.{dedup_is}
use Rattle.std.proofs.lemmas.List.Kept.{Contains-dedup_nat, Contains-from_dedup}
use Rattle.std.proofs.lemmas.List.Sorted.{Contains-permutation, IsPermutation-sym}
use Rattle.std.proofs.lemmas.Map.Keys.{IsStrictlyIncreasing-dedup}
use Rattle.number_sets.proofs.ListMembers.{same_test, contains_member, member_contains}
use Rattle.number_sets.proofs.rising.sort_once.Goals as goal

pub returns : goal.returns
returns c =
    let is = dedup_is _ _ _ c.dedup.ensures.filtered in
    let moved = c.sort_unstable.ensures.permutation in
    record {
      rising = rw is (IsStrictlyIncreasing-dedup _ c.sort_unstable.ensures.sorted);
      same = λ number.
          same_test _ _
          (λ is_in.
          let there = member_contains _ number is_in in
          contains_member _ number (Contains-permutation _ _ number (IsPermutation-sym _ _ moved) (Contains-from_dedup _ _ number (rw is at there))))
          (λ is_in. contains_member _ number (rw is (Contains-dedup_nat _ number (Contains-permutation _ _ number moved (member_contains _ number is_in)))));
    }
