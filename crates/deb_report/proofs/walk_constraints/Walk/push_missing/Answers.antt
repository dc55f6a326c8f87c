use Rattle.std.proofs.Common.{Bor, List, append_assoc, codes, ℕ}
use Rattle.deb_causes.specs.Near.{near_view}
use Rattle.deb_report.specs.WalkLines.{missing_text, near_text}
use Rattle.deb_report.proofs.TextLemmas.{told_map}
use Rattle.deb_report.proofs.walk_constraints.Walk.push_missing.Goals as goal

pub returns : goal.returns
unfolding missing_text
returns c =
    rw (
      c.in_ok-push_some-2.ensures,
      c.in_ok-push_some.ensures,
      c.in_ok-extend_from_slice.ensures.items,
      ← told_map (codes "; present: ") near_text near_view c.as_slice.result.now,
      ← told_map (codes "; similar: ") (λ name. name) (λ (name : Bor (List ℕ)). name.now) c.as_slice-2.result.now,
      c.as_slice.ensures.value,
      c.as_slice-2.ensures.value,
      c.in_ok-misses.ensures,
      c.in_ok-names.ensures,
      c.from_ref-need.ensures.value,
    )
    (simp append_assoc)
