use Rattle.std.proofs.Common.{◌≡◌, ap, inl, inr, option_map, refl, string_bytes}
use Rattle.std.proofs.lemmas.Result.{err_from_is_err_and}
use Rattle.run_settings.specs.Settings.{settings_of}
use Rattle.debcheck.specs.Program.{RunsNamed}
use Rattle.debcheck.proofs.program.name_and_run.Goals as goal

pub returns : goal.returns
unfolding RunsNamed
returns g c =
    let taken = c.take_names.new.config in
    let before = c.args.config.now in
    let bg : option_map string_bytes taken.bg ≡ option_map string_bytes before.bg = ap (option_map string_bytes) c.take_names.ensures.background in
    let since : option_map string_bytes taken.since ≡ option_map string_bytes before.since = ap (option_map string_bytes) c.take_names.ensures.since in
    inr (settings_of taken, c.in_ok-take_names.ensures.taken, rw bg at (rw since at c.open_and_run.ensures))

pub returns-in_err-take_names : goal.returns-in_err-take_names
unfolding RunsNamed
returns-in_err-take_names g c =
    let p = err_from_is_err_and c.from_residual.result c.from_residual.ensures.1 in
    rw (p.1, p.2) (inl (c.in_err-take_names.field-0.0, refl, c.requires.reader, refl, refl, c.in_err-take_names.ensures.refused))
