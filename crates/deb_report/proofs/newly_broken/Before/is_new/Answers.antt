use Rattle.std.proofs.Common.{◌∙◌, ap, map, not}
use Rattle.deb_report.specs.Since.{AreMarks, broken_view, was_broken}
use Rattle.deb_report.proofs.newly_broken.Before.is_new.Goals as goal

pub returns : goal.returns
returns c =
    let before = c.args.self.now in
    let test = was_broken (map broken_view before.packages.now) in
    let are : AreMarks before.index.now test c.as_slice-marks.result.now = rw c.as_slice-marks.ensures.value before.are_marks in
    ap not (are.1 c.name_of.result c.name_of.ensures.within ∙ ap test c.name_of.ensures.name)
