use Rattle.std.proofs.Common.{codes, refl}
use Rattle.deb_relation.proofs.JoinLemmas.{lines_map}
use Rattle.deb_health.specs.Verdicts.{shown_view}
use Rattle.deb_report.specs.Outcome.{number_view}
use Rattle.deb_report.specs.Since.{amends_view}
use Rattle.deb_report.proofs.FormLemmas.{list_map}
use Rattle.deb_report.specs.declared.form.Lead.TheVariants.{Tall}
use Rattle.deb_report.specs.Document.{amended_in, block_in, counted_in, text_under}
use Rattle.run_settings.specs.Settings.{settings_of}
use Rattle.deb_report.proofs.form.Writer.text.Goals as goal

pub push_list-requires : goal.push_list-requires
push_list-requires c =
    rw c.as_slice-blocks.ensures.value
    (λ k d below. record { asked = c.requires.content.blocks k d below; walked = c.requires.walked k d below })

pub returns : goal.returns
unfolding text_under
returns c =
    let form = c.args.self.now.config.now.format in
    let index = c.args.self.now.index.now in
    let content = c.args.content.now in
    rw (
      c.in_ok-push_end.ensures,
      c.in_ok-push_all-2.ensures,
      c.in_ok-push_all.ensures,
      c.in_ok-push_list.ensures,
      c.in_ok-push_string.ensures,
      c.in_ok-push_head.ensures,
      c.new-out.ensures.items,
      c.as_slice-blocks.ensures.value,
      c.as_slice.ensures.value,
      c.as_slice-2.ensures.value,
      c.arch-arch.ensures,
      ← list_map form Tall (codes "report") (block_in index (settings_of c.args.self.now.config.now)) shown_view content.blocks.items,
      ← lines_map (counted_in form) number_view c.in_ok-numbers.numbers.items,
      c.in_ok-numbers.ensures,
      c.is_some-background.ensures,
      ← lines_map (amended_in form) amends_view content.lists.items,
    )
    refl
