use Rattle.std.proofs.Common.{◌≡◌, false, rules}
use Rattle.run_settings.specs.Settings.{is_excluded}
use Rattle.command_line.proofs.LineLemmas.{names-another}
use Rattle.command_line.proofs.values.is_architecture.Goals as goal

pub returns-in_default : goal.returns-in_default
returns-in_default c =
    let another : is_excluded c.args.text.now ≡ false = names-another c.args.text.now c.in_default.not-empty c.in_default.not-all c.in_default.not-any in
    rw another (search rules)
