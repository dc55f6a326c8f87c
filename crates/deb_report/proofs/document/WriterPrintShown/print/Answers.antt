use Rattle.std.proofs.Common.{◌∷◌, []}
use Rattle.deb_report.specs.Document.{block_in}
use Rattle.deb_report.proofs.JoinLemmas.{in-order}
use Rattle.deb_report.proofs.document.WriterPrintShown.print.Goals as goal

pub returns : goal.returns
unfolding block_in
returns c =
    rw (
      c.in_ok-push_one_of.ensures,
      c.in_ok-push_explanation.ensures,
      c.in_ok-push_string-4.ensures,
      c.in_ok-push_string-3.ensures,
      c.in_ok-push_string-2.ensures,
      c.in_ok-push_string.ensures,
      c.as_slice-architecture.ensures.value,
      c.as_slice.ensures.value,
      c.text.ensures.text,
      c.status_text.ensures,
      ← c.package-deb.ensures,
    )
    (in-order c.args.out.now.items _ (_ ∷ _ ∷ _ ∷ _ ∷ _ ∷ []))
