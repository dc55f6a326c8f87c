use Rattle.std.proofs.Common.{Bor}
use Rattle.deb_report.specs.declared.broken.BrokenPackage.{BrokenPackage}
use Rattle.deb_report.specs.Since.{broken_view}
use Rattle.deb_report.proofs.FormLemmas.{list_map}
use Rattle.deb_report.specs.declared.form.Lead.TheVariants.{Other}
use Rattle.deb_report.specs.Document.{broken_in}
use Rattle.deb_report.proofs.numbers.WriterPrintAmends.print.Goals as goal

pub returns : goal.returns
returns c =
    let form = c.args.self.now.config.now.format in
    let amends = c.args.amends.now in
    rw (list_map form Other amends.title.now (broken_in form) (λ (deb : Bor BrokenPackage). broken_view deb.now) amends.packages.items)
    (rw c.as_slice-packages.ensures.value at c.in_ok-push_list.ensures)
