use Rattle.std.proofs.Common.{◌∙◌, Bor, List, ℕ, append_assoc, codes, map, sym}
use Rattle.run_settings.specs.declared.config.Format.TheVariants.{Json}
use Rattle.deb_report.specs.declared.form.Lead.TheVariants.{Other}
use Rattle.deb_report.specs.Document.{head_in}
use Rattle.deb_report.specs.Forms.{list_in, quoted}
use Rattle.deb_report.proofs.FormLemmas.{list_map}
use Rattle.deb_report.proofs.JoinLemmas.{added}
use Rattle.deb_report.proofs.form.Writer.push_head.Goals as goal

pub returns-in_ok-push_list-in-Json : goal.returns-in_ok-push_list-in-Json
unfolding head_in
returns-in_ok-push_list-in-Json c =
    let options = c.args.options.now in
    let word = λ (one : Bor (List ℕ)). one.now in
    rw c.in-Json.is
    (added c.in_ok-push_list-in-Json.ensures c.in_ok-extend_from_slice-in-Json.ensures.items (sym (list_map Json Other (codes "options") quoted word options))
    ∙ append_assoc c.args.out.now.items (codes "{\"format\":2") (list_in Json Other (codes "options") quoted (map word options)))
