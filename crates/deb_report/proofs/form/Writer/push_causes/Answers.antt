use Rattle.std.proofs.Common.{append_assoc}
use Rattle.std.proofs.lemmas.List.{length-map}
use Rattle.deb_causes.specs.Causes.{cause_view}
use Rattle.deb_report.proofs.FormLemmas.{elements_map}
use Rattle.deb_report.specs.declared.form.Lead.TheVariants.{Tall}
use Rattle.deb_report.specs.CauseText.{cause_in}
use Rattle.deb_report.proofs.form.Writer.push_causes.Goals as goal

pub push_elements-requires : goal.push_elements-requires
push_elements-requires c = c.in_ok-similar.ensures

pub returns : goal.returns
returns c =
    let form = c.args.self.now.config.now.format in
    let index = c.args.self.now.index.now in
    let causes = c.args.causes.now in
    rw (c.in_ok-push_elements.ensures, c.in_ok-push_count.ensures, c.in_ok-push_title.ensures, length-map causes cause_view, elements_map form Tall (cause_in form index) cause_view causes)
    (simp append_assoc)
