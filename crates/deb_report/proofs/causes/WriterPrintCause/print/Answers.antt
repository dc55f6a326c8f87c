use Rattle.std.proofs.Common.{◌∷◌, []}
use Rattle.deb_report.specs.CauseText.{cause_in}
use Rattle.deb_report.proofs.JoinLemmas.{in-order}
use Rattle.deb_report.proofs.causes.WriterPrintCause.print.Goals as goal

pub push_near_to-requires-clause-within : goal.push_near_to-requires-clause-within
push_near_to-requires-clause-within c = rw c.as_slice-constraints.ensures.value c.requires.of_index.constraints

pub push_near_to-requires-clause-sought : goal.push_near_to-requires-clause-sought
push_near_to-requires-clause-sought c = rw c.as_slice-constraints.ensures.value c.requires.sought

pub push_some-requires-3 : goal.push_some-requires-3
push_some-requires-3 c = rw c.as_slice-3.ensures.value c.requires.of_index.versions

pub push_list-requires-2 : goal.push_list-requires-2
push_list-requires-2 c = rw c.as_slice-places.ensures.value c.requires.of_index.places

pub returns : goal.returns
unfolding cause_in
returns c =
    rw (
      c.in_ok-push_one_of.ensures,
      c.in_ok-push_list-2.ensures,
      c.in_ok-push_near_to.ensures,
      c.in_ok-push_some-3.ensures,
      c.in_ok-push_some-2.ensures,
      c.in_ok-push_some.ensures,
      c.in_ok-push_list.ensures,
      c.in_ok-push_number-2.ensures,
      c.in_ok-push_number.ensures,
      c.as_slice-2.ensures.value,
      c.in_ok-hits.ensures.value,
      c.as_slice-constraints.ensures.value,
      c.as_slice-places.ensures.value,
      c.as_slice.ensures.value,
      c.as_slice-3.ensures.value,
    )
    (in-order c.args.out.now.items _ (_ ∷ _ ∷ _ ∷ _ ∷ _ ∷ _ ∷ _ ∷ _ ∷ []))
