use Rattle.std.proofs.Common.{Some, ap, length, map}
use Rattle.clap.specs.Words.{Rule}
use Rattle.command_line.proofs.options.argument.Goals as goal

pub returns-in-Some-clause-rule : goal.returns-in-Some-clause-rule
returns-in-Some-clause-rule c =
    let option = c.args.option.now in
    rw (c.short.ensures, c.default_values-argument.ensures, c.required.ensures, c.help.ensures, c.value_names.ensures, c.action.ensures, c.long.ensures, c.in-Some.is)
    (ap {A = Rule} {B = Rule} (λ r. record r { long = Some option.name.now; short = Some c.in-Some.short; action = Some option.action; value_names = length option.value.now; required = option.required; defaults = map (λ text. text.now) option.usual.now })
    c.new.ensures.rule)

pub returns-in-None-clause-rule : goal.returns-in-None-clause-rule
returns-in-None-clause-rule c =
    let option = c.args.option.now in
    rw (c.default_values-argument.ensures, c.required.ensures, c.help.ensures, c.value_names.ensures, c.action.ensures, c.long.ensures, c.in-None.is)
    (ap {A = Rule} {B = Rule} (λ r. record r { long = Some option.name.now; action = Some option.action; value_names = length option.value.now; required = option.required; defaults = map (λ text. text.now) option.usual.now })
    c.new.ensures.rule)
