use Rattle.std.proofs.Common.{◌≡◌, ◌∙◌, Some, ap, rules, sym}
use Rattle.run_settings.specs.Settings.{settings_of}
use Rattle.deb_report.proofs.AskedLemmas.{asked-known, asked-unknown}
use Rattle.deb_report.proofs.asked.asked_places.Goals as goal

pub returns-in_ok-earlier_places-in-None-clause-asked : goal.returns-in_ok-earlier_places-in-None-clause-asked
returns-in_ok-earlier_places-in-None-clause-asked c =
    asked-known c.args.index.now (settings_of c.args.config.now).only c.in_ok-earlier_places-in-None.field-0.items c.in-None.ensures c.in_ok-earlier_places-in-None.ensures.places

pub returns-in_ok-from_slice-in-Some-clause-refused : goal.returns-in_ok-from_slice-in-Some-clause-refused
returns-in_ok-from_slice-in-Some-clause-refused c =
    let same : c.in_ok-from_slice-in-Some.field-0.items ≡ c.in-Some.name.now.items = search rules in
    asked-unknown c.args.index.now (settings_of c.args.config.now).only c.in_ok-from_slice-in-Some.field-0.items (c.in-Some.ensures ∙ ap Some (sym same))
