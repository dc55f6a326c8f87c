use Rattle.std.proofs.Common.{append_assoc, codes}
use Rattle.deb_relation.proofs.JoinLemmas.{joined_map}
use Rattle.deb_relation.specs.Relationship.{atom_view, printed}
use Rattle.deb_report.specs.Forms.{part_json, quoted}
use Rattle.deb_report.proofs.parts.InJsonPrintPart.print.Goals as goal

pub returns-in_ok-extend_from_slice-in-Provides-2 : goal.returns-in_ok-extend_from_slice-in-Provides-2
unfolding part_json
returns-in_ok-extend_from_slice-in-Provides-2 c =
    rw (
      c.in_ok-extend_from_slice-in-Provides-2.ensures.items,
      c.in_ok-push_joined-in-Provides.ensures,
      c.in_ok-extend_from_slice-in-Provides.ensures.items,
      c.in-Provides.is,
      ← c.as_slice-in-Provides.ensures.value,
      joined_map (λ entry. quoted (printed entry)) (λ entry. atom_view entry.now) (codes ",") c.as_slice-in-Provides.result.now,
    )
    (simp append_assoc)
