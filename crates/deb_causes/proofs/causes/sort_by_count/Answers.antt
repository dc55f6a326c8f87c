use Rattle.std.proofs.Common.{◌≤◌, rules}
use Rattle.std.proofs.lemmas.List.Sorted.{All-permutation, IsStrictWeakOrder-by_number, IsStrictWeakOrder-flip, answers_always}
use Rattle.deb_causes.specs.declared.gathered.Cause.{Cause}
use Rattle.deb_causes.proofs.CauseOrder.{count_of, is_before, sorted-by-count}
use Rattle.deb_causes.proofs.causes.sort_by_count.Goals as goal

pub returns : goal.returns
returns c = λ most all.
    let order = IsStrictWeakOrder-flip _ (IsStrictWeakOrder-by_number count_of) in
    sorted-by-count most c.args.causes.now.items _
    (c.in_ok-sort_by.ensures.sorted is_before order (answers_always _ _ _ (λ f a r g k. search rules)))
    (c.in_ok-sort_by.ensures.stable is_before order (answers_always _ _ _ (λ f a r g k. search rules)))
    (All-permutation (λ (cause : Cause). count_of cause ≤ most) _ _ c.in_ok-sort_by.ensures.permutation all)
