use Rattle.std.proofs.Common.{◌∙◌, List, Ok, ap, length, map, sym, ℕ}
use Rattle.deb_health.specs.Verdicts.{told_view}
use Rattle.deb_health.specs.declared.told.Told.{Told}
use Rattle.deb_report.specs.Since.{summary_of}
use Rattle.run_settings.specs.Settings.{settings_of}
use Rattle.deb_report.specs.Content.{before_view}
use Rattle.deb_report.specs.Document.{written_told}
use Rattle.deb_input.specs.Inputs.{slip_of}
use Rattle.debcheck.specs.Run.{IsAsked}
use Rattle.debcheck.proofs.TellLemmas.{reported, told-length, told-within}
use Rattle.debcheck.proofs.verdicts.report_on.Goals as goal

pub report_told-requires-clause-same : goal.report_told-requires-clause-same
report_told-requires-clause-same g c =
    sym (ap length c.as_slice-told.ensures.value ∙ told-length c.wanted_of-wanted.result c.args.index.now (before_view c.args.before) c.as_slice-asked.result.now c.in_ok-told.told.items c.in_ok-told.ensures)

pub report_told-requires-clause-within : goal.report_told-requires-clause-within
report_told-requires-clause-within g c =
    rw c.as_slice-told.ensures.value (told-within c.wanted_of-wanted.result c.args.index.now (before_view c.args.before) c.as_slice-asked.result.now c.in_ok-told.told.items c.in_ok-told.ensures)

pub returns-clause-report : goal.returns-clause-report
returns-clause-report g c =
    let settings = settings_of c.args.job.now.config.now in
    let index = c.args.index.now in
    let asked = c.as_slice-asked.result.now in
    let before = before_view c.args.before in
    let shown = c.as_slice-told.ensures.value in
    let r = c.in_ok-report_told.field-0 in
    let is_asked : IsAsked settings index asked = record {
      are_asked = c.in_ok-asked.ensures.asked ∙ ap (λ (places : List ℕ). Ok places) (sym c.as_slice-asked.ensures.value);
      no_slip = ap (slip_of settings index) c.as_slice-asked.ensures.value ∙ c.in_ok-asked.ensures.no_slip;
    } in
    reported settings index c.args.before asked c.in_ok-told.told.items c.wanted_of-wanted.result c.is_some.result r.0.items r.1 c.is_some.ensures c.wanted_of-wanted.ensures
    c.in_ok-told.ensures is_asked (c.in_ok-report_told.ensures.text ∙ ap (λ (list : List Told). written_told settings index asked (map told_view list) before) shown)
    (c.in_ok-report_told.ensures.summary ∙ ap (λ (list : List Told). summary_of index asked (map told_view list) before) shown)
