use Rattle.std.proofs.Common.{◌∙◌, Global, List, None, Vec, ap, ap₂, length, map, subst, sym, ℕ}
use Rattle.std.proofs.lemmas.Result.{IfOk-weaker}
use Rattle.deb_health.specs.Verdicts.{told_view}
use Rattle.deb_health.specs.declared.told.Told.{Told}
use Rattle.deb_report.specs.declared.broken.BrokenPackage.{BrokenPackage}
use Rattle.deb_report.specs.Since.{broken_of}
use Rattle.work_draw.specs.Checks.{AnswersEach}
use Rattle.debcheck.specs.Run.{IsToldAt, statuses}
use Rattle.debcheck.proofs.TellLemmas.{told-each, told-length}
use Rattle.debcheck.proofs.verdicts.find_broken_packages.Goals as goal

pub broken_packages-requires-clause-same : goal.broken_packages-requires-clause-same
broken_packages-requires-clause-same g c =
    sym (ap length c.as_slice.ensures.value ∙ told-length statuses c.args.index.now None c.as_slice-asked.result.now c.in_ok-told.told.items c.in_ok-told.ensures)

pub broken_packages-requires-clause-places : goal.broken_packages-requires-clause-places
broken_packages-requires-clause-places g c = rw c.as_slice-asked.ensures.value c.in_ok-asked.ensures.within

pub returns : goal.returns
returns g c =
    let index = c.args.index.now in
    let found = c.in_ok-told.told.items in
    let places = c.as_slice-asked.ensures.value ∙ c.in_ok-asked.ensures.places in
    let each = subst (λ (asked : List ℕ). AnswersEach (IsToldAt statuses index None) asked found) places c.in_ok-told.ensures in
    IfOk-weaker c.broken_packages.result _ _
    (λ (broken : Vec BrokenPackage Global) are.
    record {
      told = map told_view found;
      are_told = told-each statuses index None _ found each;
      are_broken = are ∙ ap₂ (λ (asked : List ℕ) (list : List Told). broken_of index asked (map told_view list)) places c.as_slice.ensures.value;
    })
    c.broken_packages.ensures
