use Rattle.std.proofs.Common.{append_assoc, codes}
use Rattle.deb_relation.proofs.JoinLemmas.{joined_map, lines_map}
use Rattle.deb_report.specs.Forms.{item_front, part_json, part_line, part_view}
use Rattle.deb_report.proofs.form.Writer.push_front.Goals as goal

pub returns-in_ok-push_all-in-Text : goal.returns-in_ok-push_all-in-Text
unfolding item_front
returns-in_ok-push_all-in-Text c =
    rw (c.in-Text.is, c.in_ok-push_all-in-Text.ensures, c.in_ok-push_texts-in-Text.ensures, c.as_bytes.ensures.value, c.lead_of.ensures, lines_map part_line part_view c.args.parts.now) (simp append_assoc)

pub returns-in_ok-push_joined-in-Json : goal.returns-in_ok-push_joined-in-Json
unfolding item_front
returns-in_ok-push_joined-in-Json c =
    rw (c.in-Json.is, c.in_ok-push_joined-in-Json.ensures, c.in_ok-extend_from_slice-in-Json.ensures.items, joined_map part_json part_view (codes ",") c.args.parts.now) (simp append_assoc)
