use Rattle.std.proofs.Common.{◌+◌, ◌<◌, arith, get_or, length, refl, take}
use Rattle.deb_index.specs.Packages.{package_at}
use Rattle.deb_report.specs.Since.{has_named}
use Rattle.deb_report.proofs.MarkLemmas.{mark-set, named-more}
use Rattle.deb_report.proofs.marks.marks_at.Goals as goal

pub loop-place-preserved : goal.loop-place-preserved
loop-place-preserved c =
    let index = c.args.index.now in
    let places = c.args.places.now in
    let i = c.loop-place.place-index in
    let place = get_or places i 0 in
    let name = (package_at index place).name in
    let inside : i < length places = omega arith in
    mark-set index (has_named index (take i places)) (has_named index (take (i + 1) places)) name c.loop-place.marks.items c.name_of.result c.loop-place.invariant
    (named-more index places i place name inside refl refl) c.name_of.ensures.within c.name_of.ensures.name
